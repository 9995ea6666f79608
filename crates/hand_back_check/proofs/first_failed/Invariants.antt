use Rattle.hand_back_check.proofs.Failing.{Failing}
use Rattle.hand_back_check.proofs.first_failed.Given as goal

abbrev pub invariant-loop-i : goal.invariant-loop-i
invariant-loop-i l = Failing l.batch l.count l.mask l.i
