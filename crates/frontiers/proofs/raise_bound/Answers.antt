use Rattle.frontiers.proofs.RaisingBounds.{edge_rises}
use Rattle.frontiers.proofs.raise_bound.Goals as goal

pub returns : goal.returns
returns c = rw c.from.ensures (edge_rises _ _ _ _ _ c.requires c.raise_tick.ensures)
