use Rattle.step_batch.proofs.Turns.{keep_moved, keep_here}
use Rattle.step_batch.proofs.keep_pending.Goals as goal

pub returns-then-kept-i : goal.returns-then-kept-i
returns-then-kept-i c = search keep_moved depth 1

pub returns-else-kept-i : goal.returns-else-kept-i
returns-else-kept-i c = search keep_here depth 1
