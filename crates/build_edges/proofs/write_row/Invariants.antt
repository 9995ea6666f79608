use mathlib.Core.List.{map}
use lib.ListN.{take}
use Rattle.rules.specs.Build.{edge_to}
use Rattle.types.specs.Value.{lp_id_of}
use Rattle.build_topology.specs.Lookaheads.{targets_for}
use Rattle.build_edges.specs.Written.{WritesRow}
use Rattle.build_edges.proofs.write_row.Given as goal

abbrev pub invariant-loop-i : goal.invariant-loop-i
invariant-loop-i l = WritesRow l.at (map (edge_to (lp_id_of l.source)) (take l.i (targets_for l.destinations l.lookaheads))) l.initial.edges l.edges
