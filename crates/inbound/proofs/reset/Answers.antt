use Rattle.inbound.proofs.Recording.{reset_holds}
use Rattle.inbound.proofs.reset.Goals as goal

pub returns : goal.returns
returns c = search reset_holds depth 1
