use Rattle.step_advance.proofs.Advancing.{spends_not, spends_if}
use Rattle.step_advance.proofs.budget_spent.Goals as goal

pub returns-then-head : goal.returns-then-head
returns-then-head c = search spends_not depth 1

pub returns : goal.returns
returns c = search spends_if depth 1
