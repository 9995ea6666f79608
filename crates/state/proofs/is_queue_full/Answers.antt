use Rattle.state.proofs.Queueing.{over_full, full}
use Rattle.state.proofs.is_queue_full.Goals as goal

pub returns-then-pending-gt-MAX_PENDING : goal.returns-then-pending-gt-MAX_PENDING
returns-then-pending-gt-MAX_PENDING c = search over_full depth 1

pub returns : goal.returns
returns c = search full depth 1
