use Rattle.frontiers.proofs.Capped.{capped_sum, capped_over}
use Rattle.frontiers.proofs.advanced_bound.Goals as goal

pub returns-in-Some : goal.returns-in-Some
returns-in-Some c = capped_sum _ _ _ _ _ c.in-Some.ensures c.min.ensures

pub returns-in-None : goal.returns-in-None
returns-in-None c = capped_over _ _ _ c.in-None.ensures
