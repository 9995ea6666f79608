use mathlib.Core.Path.{◌≡◌}
use Rattle.text_input.specs.Little.{word_of}
use Rattle.text_input.proofs.Decoded.{storing}
use Rattle.text_input.proofs.decode.Given as goal

abbrev pub invariant-loop-i : goal.invariant-loop-i
invariant-loop-i l = storing (word_of l.bytes) l.i l.n l.w ≡ storing (word_of l.bytes) 0 l.n l.initial.w
