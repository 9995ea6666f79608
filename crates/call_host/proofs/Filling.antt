-- Emissions from words, one after the other to the front of an array.
use mathlib.Core.Path.{◌≡◌, refl, sym, ap, ◌∙◌}
use mathlib.Core.List.{List, [], ◌∷◌, ◌++◌, map-append}
use Prim.Native.Nat.{ℕ, ◌+◌, ◌*◌, ◌<◌}
use native.Mathlib.Omega.{arith}
use native.Mathlib.Numerals.{add-one}
use lib.ListN.{length, take, set, length-set}
use lib.Seq.{take-suc-set}
use Rattle.words.specs.Words.{tab}
use Rattle.words.proofs.Tab.{tab_push}
use Rattle.rules.specs.HandBack as rules
use Rattle.reply_words.specs.declared.Emission.{Emission}
use Rattle.reply_words.specs.Emissions.{emission_of, emission_in, emission_at, emissions_of}
use Rattle.host_hand_back.specs.Passes.{reply_of}

-- The first i of n are there.
pub record Filling (w : List ℕ) (i : ℕ) (xs : List Emission) : Type 0 where
  pub long : length xs ≡ 512
  pub front : reply_of (take i xs) ≡ emissions_of i w

module _ (w : List ℕ) where
  pub filling_none : (xs : List Emission) → length xs ≡ 512 → Filling w 0 xs
  unfolding tab
  filling_none xs l = record { long = l; front = refl }

  pub filling_more : (i : ℕ) (xs : List Emission) (e : Emission) → i < 512 → emission_of e ≡ emission_in w (8 * i) → Filling w i xs → Filling w (i + 1) (set xs i e)
  unfolding emission_at
  filling_more i xs e l is f =
      let h : i < length xs = omega (arith, f.long) in
      let more : take (i + 1) (set xs i e) ≡ take i xs ++ (e ∷ []) = rw add-one (take-suc-set xs i e h) in
      record {
        long = length-set xs i e ∙ f.long;
        front = ap reply_of more ∙ map-append emission_of (take i xs) (e ∷ []) ∙ ap (λ (ys : List rules.Emission). ys ++ (emission_of e ∷ [])) f.front ∙ ap (λ (y : rules.Emission). emissions_of i w ++ (y ∷ [])) is ∙ sym (tab_push (emission_at w) i);
      }
