use Rattle.plan_rows.proofs.Stored.{Stored}
use Rattle.plan_rows.proofs.read_lookaheads.Given as goal

abbrev pub invariant-loop-i : goal.invariant-loop-i
invariant-loop-i l = Stored l.s l.i l.lookaheads
