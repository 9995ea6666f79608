use Rattle.hand_back_commit.proofs.Ending.{concludable, ended}
use Rattle.hand_back_commit.proofs.commit_round.Goals as goal

pub end_round-requires : goal.end_round-requires
end_round-requires c =
    concludable c.args.head _ _ _ _ _ c.requires c.handle-h.result c.handle-h.ensures

pub returns : goal.returns
returns c =
    ended c.args.head c.args.counters _ _ _ _ _ c.requires c.handle-h.result c.handle-h.ensures c.count_round-c.result c.count_round-c.ensures _ _ c.end_round.result c.end_round.ensures
