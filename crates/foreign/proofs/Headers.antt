-- The tests of a header: its run, and what is known where it passes.
use mathlib.Core.Path.{◌≡◌, sym, ◌∙◌}
use mathlib.Core.Bool.{Bool, true, false, not, ◌||◌, and-false, and-true, or-false, or_assoc}
use Prim.Native.Nat.{ℕ, ◌*◌, ◌≤◌}
use native.Mathlib.Omega.{arith}
use lib.Dec.{leb, ltb, eqb}
use borrow.Author.Tests.{ltb-true, ltb-false, le-leb, lt-leb}
use Rattle.types.specs.Value.{ticks_of, duration_of}
use Rattle.rules.specs.Base.{any, any_of}
use Rattle.rules.specs.State.{max_tick}
use Rattle.rules.specs.Foreign.{horizon_is_max, is_unset}
use Rattle.rules.proofs.Tests.{by_bool, not_true, not_false}
use Rattle.rules.proofs.Lists.{All}
use Rattle.rules.proofs.Shape.{alls}
use Rattle.state.specs.declared.Header.{Header}
use Rattle.state.specs.View.{stored_of}
use Rattle.foreign.specs.Tests.{size_tests, count_tests, stored_in, run_tests, header_tests}

-- Both tests of the process count in one answer x.
module _ (h : Header) (x : Bool) (e : x ≡ eqb h.n 0 || ltb 64 h.n) where
  pub count_wrong : x ≡ true → true ≡ any_of (size_tests h)
  unfolding any_of any
  count_wrong t = rw (← or_assoc (eqb h.n 0) (ltb 64 h.n) (eqb (duration_of h.lookahead) 0 || false), ← e, t)

  pub count_right : x ≡ false → (r : Bool) → r ≡ eqb (duration_of h.lookahead) 0 → r ≡ any_of (size_tests h)
  unfolding any_of any
  count_right t r q = rw (← or_assoc (eqb h.n 0) (ltb 64 h.n) (eqb (duration_of h.lookahead) 0 || false), ← e, t, or-false) q

-- "a stored horizon of 2^128 - 1" as the program tests it.
not_below : (h m : ℕ) → not (ltb h m) ≡ leb m h
not_below h m = by_bool (ltb h m) (λ l. rw l (sym (lt-leb m h (ltb-true h m l)))) (λ l. rw l (sym (le-leb m h (ltb-false h m l))))

module _ (b : Bool) (h k : ℕ) where
  pub not_stored : not b ≡ true → false ≡ horizon_is_max (stored_of b h k)
  unfolding horizon_is_max
  not_stored e = rw (not_true b e)

  pub stored_top : (m : ℕ) (r : Bool) → not b ≡ false → m ≡ max_tick → r ≡ ltb h m → not r ≡ horizon_is_max (stored_of b h k)
  unfolding horizon_is_max
  stored_top m r e g f = rw (not_false b e, f, ← g) (not_below h m)

  unset_is : is_unset (stored_of b h k) ≡ not b
  unfolding is_unset
  unset_is = by_bool b (λ e. rw e) (λ e. rw e)

-- With a run open only the horizon can be missing; without one, a batch is too much.
module _ (h : Header) (a : horizon_is_max (stored_in h) ≡ false) where
  pub with_run_holds : h.running ≡ true → not h.stored ≡ any_of (run_tests h)
  unfolding any_of any
  with_run_holds r = rw (a, r, unset_is h.stored (ticks_of h.horizon) h.budget, and-false, or-false)

  pub without_run : h.running ≡ false → ltb 0 h.batch ≡ any_of (run_tests h)
  unfolding any_of any
  without_run r = rw (a, r, and-true, or-false)

-- The counts of a header that passes are within their limits, so the words that the walks read are there.
module _ (h : Header) (r : Bool) (e : r ≡ any_of (header_tests h)) (f : r ≡ false) where
  passed : All (λ (t : Bool). t ≡ false) (header_tests h)
  passed = alls (header_tests h) (sym e ∙ f)

  within : All (λ (t : Bool). t ≡ false) (count_tests h)
  within = alls (count_tests h) passed.1.0

  pub few_processes : h.n ≤ 64
  few_processes = ltb-false 64 h.n (alls (size_tests h) passed.0).1.0

  module _ (l : ℕ) where
    pub edges_there : l ≡ 3072 → 6 * h.edges ≤ l
    edges_there m = omega (arith, ltb-false 512 h.edges within.0)

    pub pending_there : l ≡ 4096 → 8 * h.pending ≤ l
    pending_there m = omega (arith, ltb-false 512 h.pending within.1.0)

    pub batch_there : l ≡ 512 → 8 * h.batch ≤ l
    batch_there m = omega (arith, ltb-false 64 h.batch within.1.1.0)
