-- Words beside destinations: how many there are, and the lookahead of each place.
use mathlib.Core.Path.{◌≡◌, refl, sym, ap, ◌∙◌}
use mathlib.Core.List.{List, [], ◌∷◌, ◌++◌}
use Prim.Native.Nat.{ℕ, zero, suc, ◌+◌, ◌-◌, ◌*◌, ◌≤◌, ◌<◌}
use native.Mathlib.Numerals.{add-one}
use native.Mathlib.Omega.{arith}
use lib.Dec.{eqb}
use lib.ListN.{length, get_or, take, drop, length-drop}
use lib.Seq.{drop-cons, length-take-le}
use borrow.Author.Tests.{eqb-true, eqb-false, eq-eqb, ne_eqb}
use Rattle.words.specs.Words.{tick_at}
use Rattle.rules.specs.Build.{Target, targets}
use Rattle.rules.proofs.Tests.{by_bool}
use Rattle.build_topology.specs.Lookaheads.{lookaheads_for, targets_for}

pub eqb_iff : (a b c d : ℕ) → (a ≡ b → c ≡ d) → (c ≡ d → a ≡ b) → eqb a b ≡ eqb c d
eqb_iff a b c d f g = by_bool (eqb a b) (λ e. e ∙ sym (eq-eqb c d (f (eqb-true a b e)))) (λ e. e ∙ sym (ne_eqb c d (λ x. eqb-false a b e (g x))))

-- A lookahead for each destination exactly where there are two words for each.
one_each : (ds ws : List ℕ) → length ws ≡ 2 * length ds → length (lookaheads_for ds ws) ≡ length ds
unfolding lookaheads_for
one_each [] [] h = refl
one_each [] (w ∷ ws) h = absurd (omega arith)
one_each (d ∷ ds) [] h = absurd (omega arith)
one_each (d ∷ ds) (x ∷ []) h = absurd (omega arith)
one_each (d ∷ ds) (x ∷ y ∷ ws) h = ap suc (one_each ds ws (omega arith))

two_each : (ds ws : List ℕ) → length (lookaheads_for ds ws) ≡ length ds → length ws ≡ 2 * length ds
unfolding lookaheads_for
two_each [] [] h = refl
two_each [] (w ∷ ws) h = absurd (omega arith)
two_each (d ∷ ds) [] h = absurd (omega arith)
two_each (d ∷ ds) (x ∷ []) h = absurd (omega arith)
two_each (d ∷ ds) (x ∷ y ∷ ws) h = omega (arith, two_each ds ws (omega arith))

pub words_beside : (ds ws : List ℕ) → eqb (length (lookaheads_for ds ws)) (length ds) ≡ eqb (length ws) (2 * length ds)
words_beside ds ws = eqb_iff (length (lookaheads_for ds ws)) (length ds) (length ws) (2 * length ds) (two_each ds ws) (one_each ds ws)

pub length_targets : (ds ws : List ℕ) → length ws ≡ 2 * length ds → length (targets_for ds ws) ≡ length ds
unfolding lookaheads_for targets
length_targets [] ws h = refl
length_targets (d ∷ ds) [] h = absurd (omega arith)
length_targets (d ∷ ds) (x ∷ []) h = absurd (omega arith)
length_targets (d ∷ ds) (x ∷ y ∷ ws) h = ap suc (length_targets ds ws (omega arith))

twice_more : (k : ℕ) → 2 * suc k ≡ suc (suc (2 * k))
twice_more k = omega arith

-- The first k, and those behind them.
pub targets_take : (k : ℕ) (ds ws : List ℕ) → length ws ≡ 2 * length ds → take k (targets_for ds ws) ≡ targets_for (take k ds) (take (2 * k) ws)
unfolding lookaheads_for targets
targets_take zero ds ws h = refl
targets_take (suc k) [] ws h = refl
targets_take (suc k) (d ∷ ds) [] h = absurd (omega arith)
targets_take (suc k) (d ∷ ds) (x ∷ []) h = absurd (omega arith)
targets_take (suc k) (d ∷ ds) (x ∷ y ∷ ws) h = rw (twice_more k, targets_take k ds ws (omega arith))

pub targets_drop : (k : ℕ) (ds ws : List ℕ) → length ws ≡ 2 * length ds → drop k (targets_for ds ws) ≡ targets_for (drop k ds) (drop (2 * k) ws)
unfolding lookaheads_for targets
targets_drop zero ds ws h = refl
targets_drop (suc k) [] ws h = refl
targets_drop (suc k) (d ∷ ds) [] h = absurd (omega arith)
targets_drop (suc k) (d ∷ ds) (x ∷ []) h = absurd (omega arith)
targets_drop (suc k) (d ∷ ds) (x ∷ y ∷ ws) h = rw (twice_more k) (targets_drop k ds ws (omega arith))

-- Those from `at` on and before `end`, by these parts of the lists.
module _ (ds ws : List ℕ) (h : length ws ≡ 2 * length ds) (at end : ℕ) (o : at ≤ end) where
  pub targets_part : take (end - at) (drop at (targets_for ds ws)) ≡ targets_for (take (end - at) (drop at ds)) (take (2 * end - 2 * at) (drop (2 * at) ws))
  targets_part =
      let k : 2 * end - 2 * at ≡ 2 * (end - at) = omega arith in
      rw (k, targets_drop at ds ws h) (targets_take (end - at) (drop at ds) (drop (2 * at) ws) (rw (length-drop, length-drop) (omega arith)))

  pub part_beside : end ≤ length ds → length (take (2 * end - 2 * at) (drop (2 * at) ws)) ≡ 2 * length (take (end - at) (drop at ds))
  part_beside l =
      let a : end - at ≤ length (drop at ds) = rw length-drop (omega arith) in
      let b : 2 * end - 2 * at ≤ length (drop (2 * at) ws) = rw length-drop (omega arith) in
      omega (arith, length-take-le (2 * end - 2 * at) (drop (2 * at) ws) b, length-take-le (end - at) (drop at ds) a)

-- The one at place i, in the words that a program reads.
module _ (ds ws : List ℕ) (i : ℕ) where
  abbrev pub target_at : Target
  target_at = record { destination = get_or ds i 0; lookahead = tick_at ws (2 * i) }

  pub targets_at : length ws ≡ 2 * length ds → i < length ds → targets_for (drop i ds) (drop (2 * i) ws) ≡ target_at ∷ targets_for (drop (i + 1) ds) (drop (2 * (i + 1)) ws)
  unfolding lookaheads_for targets tick_at
  targets_at h l =
      let s : 2 * (i + 1) ≡ suc (suc (2 * i)) = omega arith in
      let t : 2 * i + 1 ≡ suc (2 * i) = omega arith in
      rw (s, t, add-one, drop-cons ds i 0 l, drop-cons ws (2 * i) 0 (omega arith), drop-cons ws (suc (2 * i)) 0 (omega arith))

  pub targets_push : length ws ≡ 2 * length ds → i < length ds → take (i + 1) (targets_for ds ws) ≡ take i (targets_for ds ws) ++ (target_at ∷ [])
  targets_push h l = rw add-one (take-one i (targets_for ds ws) target_at _ (targets_drop i ds ws h ∙ targets_at h l))
    where
      take-one : (k : ℕ) (l : List Target) (x : Target) (r : List Target) → drop k l ≡ x ∷ r → take (suc k) l ≡ take k l ++ (x ∷ [])
      take-one zero l x r e = rw e
      take-one (suc k) [] x r e = let z : ◌≡◌ {A = ℕ} 0 1 = cc in absurd (omega arith)
      take-one (suc k) (y ∷ l) x r e = rw (take-one k l x r e)
