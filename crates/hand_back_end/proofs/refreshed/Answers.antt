use Rattle.hand_back_end.proofs.EndingRound.{refreshes}
use Rattle.hand_back_end.proofs.refreshed.Goals as goal

pub returns : goal.returns
returns c =
    refreshes c.args.head _ _ _ _ c.refresh-result.result c.requires.1 c.refresh-result.ensures
