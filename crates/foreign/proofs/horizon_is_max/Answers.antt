use Rattle.foreign.proofs.Headers.{not_stored, stored_top}
use Rattle.foreign.proofs.horizon_is_max.Goals as goal

pub returns-then-not-head : goal.returns-then-not-head
returns-then-not-head c = search not_stored depth 1

pub returns : goal.returns
returns c = search stored_top depth 1
