use Rattle.runtime.proofs.Executing.{carries_begin}
use Rattle.runtime.proofs.begin.Goals as goal

pub returns : goal.returns
returns c = carries_begin _ c.in_default.ensures _ _ _ _ c.begin-begun.ensures
