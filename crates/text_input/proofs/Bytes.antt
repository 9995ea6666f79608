-- Eight bytes as a number: the library's and that of specs/Little.antt are the same.
use mathlib.Core.Path.{◌≡◌, ap, ◌∙◌}
use mathlib.Core.List.{List, [], ◌∷◌}
use Prim.Native.Nat.{ℕ, ◌+◌, ◌-◌, ◌≤◌}
use native.Mathlib.Omega.{arith}
use lib.ListN.{length, take, drop, length-take, length-drop}
use lib.Seq.{take_all}
use Rattle.std.specs.Int.{from_le_bytes, w64}
use Rattle.text_input.specs.Little.{little, word_at}

little_is : (bs : List ℕ) → length bs ≡ 8 → from_le_bytes w64 bs ≡ little bs
unfolding little
little_is [] l = absurd (omega arith)
little_is (a ∷ []) l = absurd (omega arith)
little_is (a ∷ b ∷ []) l = absurd (omega arith)
little_is (a ∷ b ∷ c ∷ []) l = absurd (omega arith)
little_is (a ∷ b ∷ c ∷ d ∷ []) l = absurd (omega arith)
little_is (a ∷ b ∷ c ∷ d ∷ e ∷ []) l = absurd (omega arith)
little_is (a ∷ b ∷ c ∷ d ∷ e ∷ f ∷ []) l = absurd (omega arith)
little_is (a ∷ b ∷ c ∷ d ∷ e ∷ f ∷ g ∷ []) l = absurd (omega arith)
little_is (a ∷ b ∷ c ∷ d ∷ e ∷ f ∷ g ∷ h ∷ []) l = omega arith
little_is (a ∷ b ∷ c ∷ d ∷ e ∷ f ∷ g ∷ h ∷ _ ∷ _) l = absurd (omega arith)

-- The eight bytes that are lent from `at` on.
pub word_is : (bytes : List ℕ) (at : ℕ) (eight : List ℕ) → at + 8 ≤ length bytes → eight ≡ take 8 (take (length bytes - at) (drop at bytes)) → from_le_bytes w64 eight ≡ word_at bytes at
unfolding word_at
word_is bytes at eight h e =
    let l : length (drop at bytes) ≤ length bytes - at = simp length-drop (omega arith) in
    let f : eight ≡ take 8 (drop at bytes) = rw (take_all (length bytes - at) (drop at bytes) l) at e in
    let n : length eight ≡ 8 = rw f (simp (length-take, length-drop) (omega arith)) in
    little_is eight n ∙ ap little f
