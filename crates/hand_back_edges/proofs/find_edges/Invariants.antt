use Rattle.hand_back_edges.proofs.Finding.{Finding}
use Rattle.hand_back_edges.proofs.find_edges.Given as goal

abbrev pub invariant-loop-i : goal.invariant-loop-i
invariant-loop-i l = Finding l.edges l.count l.places l.initial.table l.i l.table
