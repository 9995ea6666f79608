use Rattle.schedule_initial.proofs.Adding.{added}
use Rattle.schedule_initial.proofs.add_initial.Goals as goal

pub returns-in-Ok : goal.returns-in-Ok
returns-in-Ok c = added _ _ _ _ c.in-Ok.ensures _ _ c.enqueue.ensures
