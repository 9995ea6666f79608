use Rattle.edges.proofs.Tested.{zero_lookahead}
use Rattle.edges.proofs.without_lookahead.Goals as goal

pub returns : goal.returns
returns c = search zero_lookahead depth 1
