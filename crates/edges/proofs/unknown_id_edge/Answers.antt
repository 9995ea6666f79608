use borrow.Author.Tests.{le-leb, lt-leb}
use Rattle.records.specs.Records.{edge_at}
use Rattle.edges.proofs.Tested.{or_first, or_second}
use Rattle.edges.proofs.unknown_id_edge.Goals as goal

pub returns-then-n-edges : goal.returns-then-n-edges
unfolding edge_at
returns-then-n-edges c = search (or_first, le-leb) depth 1

pub returns-else-n-edges : goal.returns-else-n-edges
unfolding edge_at
returns-else-n-edges c = search (or_second, lt-leb) depth 1
