use mathlib.Core.Path.{refl}
use Rattle.types.specs.Value.{halves}
use Rattle.types.proofs.SimDuration.one.Goals as goal

pub returns : goal.returns
unfolding halves
returns c = refl
