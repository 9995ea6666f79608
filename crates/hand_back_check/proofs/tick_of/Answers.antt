use Rattle.hand_back_check.proofs.Next.{ticked}
use Rattle.hand_back_check.proofs.tick_of.Goals as goal

pub returns : goal.returns
returns c = search ticked depth 1
