use Rattle.begin_run.proofs.Beginning.{last_stored, last_unset}
use Rattle.begin_run.proofs.last_horizon.Goals as goal

pub returns-then-head : goal.returns-then-head
returns-then-head c = search last_stored depth 1

pub returns : goal.returns
returns c = search last_unset depth 1
