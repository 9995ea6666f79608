use Rattle.foreign.proofs.Chain.{stops, answered}
use Rattle.foreign.proofs.Headers.{with_run_holds, without_run}
use Rattle.foreign.proofs.invalid_run.Goals as goal

pub returns-then-horizon_is_max : goal.returns-then-horizon_is_max
returns-then-horizon_is_max c = search (stops, answered) depth 2

pub returns-then-head : goal.returns-then-head
returns-then-head c = search (with_run_holds, answered) depth 2

pub returns : goal.returns
returns c = search (without_run, answered) depth 2
