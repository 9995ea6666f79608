use Rattle.begin_run.proofs.Beginning.{poisoned, run_open, regression, overflow, begun}
use Rattle.begin_run.proofs.refusal.Goals as goal

pub returns-then-head : goal.returns-then-head
returns-then-head c = search poisoned depth 1

pub returns-then-head-2 : goal.returns-then-head-2
returns-then-head-2 c = search run_open depth 1

pub returns-then-lt : goal.returns-then-lt
returns-then-lt c = search regression depth 1

pub returns-then-is_largest : goal.returns-then-is_largest
returns-then-is_largest c = search overflow depth 1

pub returns : goal.returns
returns c = search begun depth 1
