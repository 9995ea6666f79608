use Rattle.runtime.proofs.Executing.{carries_step}
use Rattle.runtime.proofs.step.Goals as goal

pub returns : goal.returns
returns c = carries_step _ _ _ _ _ _ _ c.step-stepped.ensures
