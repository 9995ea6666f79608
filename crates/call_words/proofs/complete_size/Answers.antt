use native.Mathlib.Omega.{arith}
use mathlib.Core.Path.{refl}
use Rattle.call_words.proofs.Decoding.{size_broken, size_fits}
use Rattle.call_words.proofs.complete_size.Goals as goal

pub returns-then-words-at : goal.returns-then-words-at
returns-then-words-at c = size_broken _ _ _ (omega arith)

pub returns : goal.returns
returns c = (refl, size_fits _ _ _ (omega arith))
