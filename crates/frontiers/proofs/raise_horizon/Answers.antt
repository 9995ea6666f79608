use Rattle.frontiers.proofs.RaisingHorizons.{horizon_rises}
use Rattle.frontiers.proofs.raise_horizon.Goals as goal

pub returns-then-rose : goal.returns-then-rose
returns-then-rose c =
    horizon_rises _ _ _ _ _ c.args.found _ _ _ _ _ _ _ _ c.requires.0 c.requires.1 c.frontier-front.ensures c.tick_in-tick.ensures c.min.ensures c.raise_tick-rose.ensures c.tick_in-horizon.ensures c.min-2.ensures c.min-3.ensures (rw c.if-rose.true)

pub returns-else-rose : goal.returns-else-rose
returns-else-rose c =
    horizon_rises _ _ _ _ _ c.args.found _ _ _ _ _ _ _ _ c.requires.0 c.requires.1 c.frontier-front.ensures c.tick_in-tick.ensures c.min.ensures c.raise_tick-rose.ensures c.tick_in-horizon.ensures c.min-2.ensures c.min-3.ensures (rw c.if-rose.false)
