use Rattle.build_edges.proofs.Behind.{written_one}
use Rattle.build_edges.proofs.put_edge.Goals as goal

pub returns : goal.returns
returns c = search written_one depth 1
