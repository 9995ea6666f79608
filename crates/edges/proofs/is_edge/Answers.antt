use borrow.Author.Tests.{eq-eqb, ne_eqb}
use Rattle.records.specs.Records.{edge_at}
use Rattle.edges.proofs.Tested.{and_second, and_first}
use Rattle.edges.proofs.is_edge.Goals as goal

pub returns-then-edges-i : goal.returns-then-edges-i
unfolding edge_at
returns-then-edges-i c = search (and_second, eq-eqb) depth 1

pub returns-else-edges-i : goal.returns-else-edges-i
unfolding edge_at
returns-else-edges-i c = search (and_first, ne_eqb) depth 1
