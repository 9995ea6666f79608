use Rattle.frontiers.proofs.Tables.{note_yes, note_no}
use Rattle.frontiers.proofs.set_first_tick.Goals as goal

pub returns-then-to-lt64 : goal.returns-then-to-lt64
returns-then-to-lt64 c = search note_yes depth 1

pub returns-else-to-lt64 : goal.returns-else-to-lt64
returns-else-to-lt64 c = search note_no depth 1
