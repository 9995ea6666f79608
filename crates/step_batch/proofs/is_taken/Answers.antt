use Rattle.step_batch.proofs.Turns.{no_room, by_tick_holds}
use Rattle.step_batch.proofs.is_taken.Goals as goal

pub returns-then-room-eq0 : goal.returns-then-room-eq0
returns-then-room-eq0 c = search no_room depth 1

pub returns : goal.returns
returns c = search by_tick_holds depth 1
