use mathlib.Core.Path.{refl}
use Rattle.words.specs.Words.{put_tick}
use Rattle.words.proofs.put_tick.Goals as goal

pub returns : goal.returns
unfolding put_tick
returns c = refl
