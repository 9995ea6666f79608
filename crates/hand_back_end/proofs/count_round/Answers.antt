use Rattle.hand_back_end.proofs.EndingRound.{counts_are}
use Rattle.hand_back_end.proofs.count_round.Goals as goal

pub returns : goal.returns
returns c =
    counts_are c.args.counters _ _ _ _ _ _ _ _ c.saturating_add.ensures c.saturating_add-2.ensures c.saturating_add-3.ensures c.saturating_add-4.ensures c.max.ensures
