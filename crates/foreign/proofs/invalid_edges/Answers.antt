use Rattle.foreign.proofs.Compared.{edge_invalid, edges_valid}
use Rattle.foreign.proofs.invalid_edges.Goals as goal

pub returns-then-invalid_edges : goal.returns-then-invalid_edges
returns-then-invalid_edges c = search edge_invalid depth 1

pub returns : goal.returns
returns c = search edges_valid depth 1
