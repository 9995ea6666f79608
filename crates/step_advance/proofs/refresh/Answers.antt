use Rattle.step_advance.proofs.Refreshing.{refreshes}
use Rattle.step_advance.proofs.refresh.Goals as goal

pub returns : goal.returns
returns c =
    refreshes _ _ _ _ _ _ c.raise_horizons-raised.result _ _ _ c.raise_horizons-raised.ensures c.one_less.ensures c.min-floor.ensures c.max.ensures
