use Rattle.hand_back_end.proofs.EndingRound.{ends_spent, ends_committed}
use Rattle.hand_back_end.proofs.end_round.Goals as goal

pub returns-then-budget_spent : goal.returns-then-budget_spent
returns-then-budget_spent c =
    ends_spent c.args.head c.args.counters _ _ _ _ _ c.exclusive_horizon-top.ensures c.first_ticks.ensures c.budget_spent.ensures c.if-budget_spent.true

pub returns : goal.returns
returns c =
    ends_committed c.args.head c.args.counters _ _ _ _ _ c.exclusive_horizon-top.ensures c.first_ticks.ensures c.budget_spent.ensures c.if-budget_spent.false _ c.refreshed-h.result c.refreshed-h.ensures
