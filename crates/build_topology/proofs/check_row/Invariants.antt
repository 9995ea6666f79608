use Rattle.types.specs.Value.{lp_id_of}
use Rattle.build_topology.proofs.Decided.{Stamped}
use Rattle.build_topology.proofs.check_row.Given as goal

abbrev pub invariant-loop-i : goal.invariant-loop-i
invariant-loop-i l = Stamped l.n (lp_id_of l.source) l.destinations l.lookaheads l.stamp l.marks l.i
