use Rattle.build_edges.proofs.Rows.{WritingEdges}
use Rattle.build_edges.proofs.write_edges.Given as goal

abbrev pub invariant-loop-i : goal.invariant-loop-i
invariant-loop-i l = WritingEdges l.rows.sources.now l.rows.counts.now l.rows.destinations.now l.rows.lookaheads.now l.initial.edges l.at l.i l.edges
