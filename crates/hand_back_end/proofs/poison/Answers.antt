use Rattle.hand_back_end.proofs.EndingRound.{leaves}
use Rattle.hand_back_end.proofs.poison.Goals as goal

pub returns : goal.returns
returns c = leaves _ _ _ _ c.poisoned_header.ensures
