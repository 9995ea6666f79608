use Rattle.step.proofs.WithoutBatch.{goes_spent, goes_on}
use Rattle.step.proofs.advance_or_refuse.Goals as goal

pub returns-then-budget_spent : goal.returns-then-budget_spent
returns-then-budget_spent c =
    rw c.budget_exceeded.ensures (goes_spent c.args.head c.args.counters _ _ _ _ _ _ c.exclusive_horizon-top.ensures c.first_ticks.ensures c.budget_spent.ensures c.if-budget_spent.true)

pub returns : goal.returns
returns c =
    goes_on c.args.head c.args.counters _ _ _ _ _ _ c.exclusive_horizon-top.ensures c.first_ticks.ensures c.budget_spent.ensures c.if-budget_spent.false _ _ c.advance-done.result c.advance-done.ensures _ c.answered.ensures
