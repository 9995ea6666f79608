use Rattle.edges.proofs.Marks.{marking}
use Rattle.edges.proofs.mark_route.Goals as goal

pub returns : goal.returns
returns c = search marking depth 1
