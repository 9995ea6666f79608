use Rattle.rules.specs.Pending.{joins}
use Rattle.records.specs.Records.{edge_at}
use Rattle.records.proofs.Passes.{Seeking}
use Rattle.edges.proofs.has_route.Given as goal

abbrev pub invariant-loop-i : goal.invariant-loop-i
invariant-loop-i l = Seeking (joins l.a l.b) (edge_at l.edges) l.count l.i
