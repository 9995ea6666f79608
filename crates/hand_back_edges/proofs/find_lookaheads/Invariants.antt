use Rattle.hand_back_edges.proofs.Lookaheads.{Telling}
use Rattle.hand_back_edges.proofs.find_lookaheads.Given as goal

abbrev pub invariant-loop-i : goal.invariant-loop-i
invariant-loop-i l = Telling l.edges l.count l.initial.table l.i l.table
