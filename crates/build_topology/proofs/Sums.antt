-- 5: what the counts add up to, and what its five tests say together.
use mathlib.Core.Path.{◌≡◌, refl, sym, ◌∙◌}
use mathlib.Core.Bool.{Bool, true, false, not, ◌||◌}
use mathlib.Core.List.{List, [], ◌∷◌}
use Prim.Native.Nat.{ℕ, ◌+◌, ◌-◌, ◌*◌, ◌≤◌, ◌<◌}
use native.Mathlib.Omega.{arith}
use lib.Dec.{ltb, eqb}
use lib.ListN.{length, get_or, drop}
use borrow.Author.Tests.{eqb-true, eq-eqb, ne_eqb, le-ltb, lt-ltb, ltb-false}
use Rattle.rules.specs.Base.{any, any_of, sum, rising}
use Rattle.rules.specs.Build.{malformed_rows}
use Rattle.rules.proofs.Tests.{not_true, not_false}
use Rattle.rules.proofs.Lists.{All, any_none, sum_more, sum_none}
use Rattle.build_ids.specs.Checks.{RisingIds}
use Rattle.build_topology.specs.Lookaheads.{lookaheads_for}
use Rattle.build_topology.specs.Checks.{RowsWellFormed, RowsPassed}
use Rattle.build_topology.proofs.Beside.{eqb_iff, words_beside}

-- What is left of the total is what the counts left have to add up to.
module _ (xs : List ℕ) (i left : ℕ) where
  pub sum_stops : i < length xs → left < get_or xs i 0 → eqb (sum (drop i xs)) left ≡ false
  sum_stops h l = ne_eqb (sum (drop i xs)) left (λ e. omega (arith, sum_more xs i h))

  pub sum_on : i < length xs → get_or xs i 0 ≤ left → eqb (sum (drop i xs)) left ≡ eqb (sum (drop (i + 1) xs)) (left - get_or xs i 0)
  sum_on h l = let m = sum_more xs i h in eqb_iff (sum (drop i xs)) left (sum (drop (i + 1) xs)) (left - get_or xs i 0) (λ e. omega arith) (λ e. omega arith)

  pub sum_ends : length xs ≤ i → eqb (sum (drop i xs)) left ≡ eqb left 0
  sum_ends h = let m = sum_none xs i h in eqb_iff (sum (drop i xs)) left left 0 (λ e. omega arith) (λ e. omega arith)

-- The five tests in turn; the first that fails decides.
module _ (sources counts ds ws : List ℕ) where
  pub fit_unpaired : (length sources ≡ length counts → ⊥) → RowsWellFormed sources counts ds ws false
  unfolding malformed_rows any_of any
  fit_unpaired h = record { of_setup = λ n l ids. rw (ne_eqb (length sources) (length counts) h) }

  module _ (h : length sources ≡ length counts) where
    pub fit_unordered : rising ltb sources ≡ false → RowsWellFormed sources counts ds ws false
    unfolding malformed_rows any_of any
    fit_unordered k = record { of_setup = λ n l ids. rw (eq-eqb (length sources) (length counts) h, k) }

    module _ (k : rising ltb sources ≡ true) where
      pub fit_unused : eqb (sum counts) (length ds) ≡ false → RowsWellFormed sources counts ds ws false
      unfolding malformed_rows any_of any
      fit_unused s = record { of_setup = λ n l ids. rw (eq-eqb (length sources) (length counts) h, k, s) }

      module _ (s : eqb (sum counts) (length ds) ≡ true) where
        pub fit_many : 512 < length ds → RowsWellFormed sources counts ds ws false
        unfolding malformed_rows any_of any
        fit_many m = record { of_setup = λ n l ids. rw (eq-eqb (length sources) (length counts) h, k, s, lt-ltb 512 (length ds) m) }

        pub fit_used : length ds ≤ 512 → RowsWellFormed sources counts ds ws (eqb (length ws) (2 * length ds))
        unfolding malformed_rows any_of any
        fit_used m = record { of_setup = λ n l ids. rw (eq-eqb (length sources) (length counts) h, k, s, le-ltb 512 (length ds) m, words_beside ds ws) (same (eqb (length ws) (2 * length ds))) }
          where
            same : (b : Bool) → b ≡ not (not b || false)
            same true = refl
            same false = refl

-- What rows that fit give to the checks after 5.
module _ (n : ℕ) (sources counts ds ws : List ℕ) (few : n ≤ 64) (fit : RowsWellFormed sources counts ds ws true) where
  passed : All (λ t. t ≡ false) (not (eqb (length sources) (length counts)) ∷ not (rising ltb sources) ∷ not (eqb (sum counts) (length ds)) ∷ ltb 512 (length ds) ∷ not (eqb (length (lookaheads_for ds ws)) (length ds)) ∷ [])
  unfolding malformed_rows any_of
  passed = any_none (λ (t : Bool). t) _ (not_true _ (sym (fit.of_setup 0 0 [])))

  pub fit_few : length ds ≤ 512
  fit_few = ltb-false 512 (length ds) passed.1.1.1.0

  pub fit_orderly : RisingIds n sources
  fit_orderly = record { few = few; rise = not_false _ passed.1.0 }

  pub fit_fitting : RowsPassed n sources counts ds ws
  fit_fitting = record { few = few; paired = eqb-true _ _ (not_false _ passed.0); used_up = eqb-true _ _ (not_false _ passed.1.1.0); beside = eqb-true _ _ (sym (words_beside ds ws) ∙ not_false _ passed.1.1.1.1.0) }
