use Rattle.inbound.proofs.Recording.{lowered}
use Rattle.inbound.proofs.lower.Goals as goal

pub returns : goal.returns
returns c = search lowered depth 1
