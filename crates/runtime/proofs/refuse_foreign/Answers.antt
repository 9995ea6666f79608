use Rattle.runtime.proofs.Executing.{carries_foreign}
use Rattle.runtime.proofs.refuse_foreign.Goals as goal

pub returns : goal.returns
returns c = carries_foreign _ _ _ c.requires
