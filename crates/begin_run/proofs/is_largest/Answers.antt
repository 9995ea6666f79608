use Rattle.begin_run.proofs.Beginning.{at_top}
use Rattle.begin_run.proofs.is_largest.Goals as goal

pub returns : goal.returns
returns c = at_top _ _ _ _ c.largest.ensures c.lt.ensures
