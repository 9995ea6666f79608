use Rattle.build_topology.proofs.Decided.{Turned}
use Rattle.build_topology.proofs.Rows.check.Given as goal

abbrev pub invariant-loop-i : goal.invariant-loop-i
invariant-loop-i l = Turned l.n l.self.sources.now l.self.counts.now l.self.destinations.now l.self.lookaheads.now l.marks l.at l.i
