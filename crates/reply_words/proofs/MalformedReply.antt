-- 26 clause by clause is 26 of the mask and of each emission in turn.
use mathlib.Core.Path.{◌≡◌, refl, sym, ap, ◌∙◌}
use mathlib.Core.Bool.{Bool, true, false, not, ◌||◌}
use mathlib.Core.List.{List, [], ◌∷◌}
use Prim.Native.Nat.{ℕ}
use native.Mathlib.Omega.{arith}
use lib.Dec.{ltb}
use lib.ListN.{length}
use borrow.Author.Tests.{le-ltb}
use Rattle.rules.specs.Base.{any, any_of}
use Rattle.rules.specs.State.{Event}
use Rattle.rules.specs.HandBack.{Emission, failed, emitters_fall, in_batch, malformed}
use Rattle.reply_words.specs.Replies.{failed_not_in_batch, malformed_emission, any_malformed_emission}

-- Tests in another order.
or_swap : (a b c d : Bool) → (a || b) || (c || d) ≡ (a || c) || (b || d)
or_swap true b c d = refl
or_swap false true true d = refl
or_swap false true false d = refl
or_swap false false c d = refl

or_front : (a b c d : Bool) → a || (b || (c || d)) ≡ c || (a || (b || d))
or_front true b true d = refl
or_front true b false d = refl
or_front false true true d = refl
or_front false true false d = refl
or_front false false c d = refl

-- Emitters fall, with the one before the first.
unfoldable fall_from : ℕ → List Emission → Bool
fall_from last [] = false
fall_from last (x ∷ xs) = ltb x.emitter last || fall_from x.emitter xs

fall_behind : (x : Emission) (xs : List Emission) → emitters_fall (x ∷ xs) ≡ fall_from x.emitter xs
unfolding emitters_fall fall_from
fall_behind x [] = refl
fall_behind x (y ∷ ys) = ap (λ (b : Bool). ltb y.emitter x.emitter || b) (fall_behind y ys)

fall_from_holds : (xs : List Emission) → emitters_fall xs ≡ fall_from 0 xs
unfolding emitters_fall fall_from
fall_from_holds [] = refl
fall_from_holds (x ∷ xs) = fall_behind x xs ∙ rw (le-ltb x.emitter 0 (omega arith))

module _ (q : List Event) (mask : ℕ) where
  abbrev unknown : Emission → Bool
  unknown x = not (in_batch q x.emitter)

  abbrev failing : Emission → Bool
  failing x = failed mask x.emitter

  abbrev long : Emission → Bool
  long x = ltb 16 (length x.message.payload)

  in_turn : (last : ℕ) (xs : List Emission) → any_malformed_emission q mask last xs ≡ fall_from last xs || (any unknown xs || (any failing xs || (any long xs || false)))
  unfolding fall_from any any_of malformed_emission any_malformed_emission
  in_turn last [] = refl
  in_turn last (x ∷ xs) =
      ap (λ (b : Bool). malformed_emission q mask last x || b) (in_turn x.emitter xs)
      ∙ or_swap (ltb x.emitter last) _ (fall_from x.emitter xs) _
      ∙ ap (λ (b : Bool). (ltb x.emitter last || fall_from x.emitter xs) || b)
      (or_swap (unknown x) _ (any unknown xs) _
      ∙ ap (λ (b : Bool). (unknown x || any unknown xs) || b) (or_swap (failing x) _ (any failing xs) _ ∙ ap (λ (b : Bool). (failing x || any failing xs) || b) (or_swap (long x) false (any long xs) false)))

  pub malformed_in_turn : (xs : List Emission) → malformed q mask xs ≡ failed_not_in_batch q mask || any_malformed_emission q mask 0 xs
  unfolding malformed any_of any failed_not_in_batch
  malformed_in_turn xs =
      or_front (emitters_fall xs) (any unknown xs) (failed_not_in_batch q mask) (any failing xs || (any long xs || false))
      ∙ ap (λ (b : Bool). failed_not_in_batch q mask || b) (ap (λ (b : Bool). b || (any unknown xs || (any failing xs || (any long xs || false)))) (fall_from_holds xs) ∙ sym (in_turn 0 xs))
