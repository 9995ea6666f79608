use Rattle.hand_back_edges.proofs.Lookaheads.{put_lookahead}
use Rattle.hand_back_edges.proofs.put_lookahead.Goals as goal

pub returns : goal.returns
returns c = search put_lookahead depth 1
