use Rattle.plan_text.proofs.Fronts.{Hexadecimal}
use Rattle.plan_text.proofs.put_half.Given as goal

abbrev pub invariant-loop-i : goal.invariant-loop-i
invariant-loop-i l = Hexadecimal l.n l.first l.end l.initial.line l.rest l.i l.line
