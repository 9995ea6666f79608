-- The emissions so far of a loop over a reply.
use mathlib.Core.Path.{◌≡◌, sym}
use Prim.Native.Nat.{ℕ, ◌+◌, ◌<◌}
use native.Mathlib.Numerals.{add-one}
use mathlib.Core.List.{List, [], ◌∷◌, ◌++◌}
use lib.ListN.{length, get_or, take}
use lib.Seq.{take-suc}
use Rattle.reply_words.specs.declared.Emission.{Emission}

abbrev pub none : Emission
none = record { emitter = record { 0 = 0 }; source = record { 0 = 0 }; destination = record { 0 = 0 }; tick = record { hi = 0; lo = 0 }; len = 0; payload_hi = 0; payload_lo = 0 }

pub one_more : (ys : List Emission) (i : ℕ) → i < length ys → take i ys ++ (get_or ys i none ∷ []) ≡ take (i + 1) ys
one_more ys i l = rw add-one (sym (take-suc ys i none l))
