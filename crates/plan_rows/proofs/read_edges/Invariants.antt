use Rattle.plan_rows.proofs.Edges.{Reading}
use Rattle.plan_rows.proofs.read_edges.Given as goal

abbrev pub invariant-loop-i : goal.invariant-loop-i
invariant-loop-i l = Reading l.s l.i l.sources l.destinations
