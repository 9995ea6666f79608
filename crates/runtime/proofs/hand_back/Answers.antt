use Rattle.runtime.proofs.Executing.{carries_back}
use Rattle.runtime.proofs.hand_back.Goals as goal

pub returns : goal.returns
returns c = carries_back _ _ _ _ _ _ _ _ c.hand_back-handed.ensures
