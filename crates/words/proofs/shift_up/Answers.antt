use Rattle.words.proofs.Shift.{shift_copied}
use Rattle.words.proofs.shift_up.Goals as goal

pub returns : goal.returns
returns c = shift_copied _ _ _ c.copy_within.ensures.after
