-- A pass from the front over f 0, f 1, .., n of them, that stops at the first answer: whether a test holds of one, and whether each comes before the next.
use mathlib.Core.Path.{◌≡◌, refl, sym, ◌∙◌}
use mathlib.Core.Bool.{Bool, true, false, ◌&&◌, ◌||◌}
use Prim.Native.Nat.{ℕ, zero, suc, ◌+◌, ◌-◌, ◌≤◌, ◌<◌}
use native.Mathlib.Omega.{arith}
use Rattle.words.specs.Words.{tab}
use Rattle.words.proofs.Tab.{tab_next, tab_none, tab_whole}
use Rattle.rules.specs.Base.{any, rising}

module _ {A : Type 0} (test : A → Bool) (f : ℕ → A) (n : ℕ) where
  -- What the elements from i on say is what all say.
  pub record Seeking (i : ℕ) : Type 0 where
    pub rest : any test (tab f i (n - i)) ≡ any test (tab f 0 n)

  pub seeking_start : Seeking 0
  seeking_start = record { rest = rw (tab_whole f 0 n refl) }

  module _ (i : ℕ) (h : i < n) (s : Seeking i) where
    next : test (f i) || any test (tab f (i + 1) (n - (i + 1))) ≡ any test (tab f 0 n)
    unfolding any
    next = rw (tab_next f i n h) at s.rest

    pub seeking_more : test (f i) ≡ false → Seeking (i + 1)
    seeking_more t = record { rest = rw t at next }

    pub seeking_found : test (f i) ≡ true → true ≡ any test (tab f 0 n)
    seeking_found t = rw t at next

    -- The same where b is the answer for element i.
    module _ (b : Bool) (q : b ≡ test (f i)) where
      pub answer_passed : b ≡ false → Seeking (i + 1)
      answer_passed t = seeking_more (sym q ∙ t)

      pub answer_found : b ≡ true → true ≡ any test (tab f 0 n)
      answer_found t = seeking_found (sym q ∙ t)

  pub seeking_end : (i : ℕ) → n ≤ i → Seeking i → false ≡ any test (tab f 0 n)
  unfolding any
  seeking_end i h s = rw (tab_none f i n h) at s.rest

module _ {A : Type 0} (before : A → A → Bool) (f : ℕ → A) where
  -- One or none rises.
  short : (i m : ℕ) → m ≤ 1 → rising before (tab f i m) ≡ true
  unfolding rising tab
  short i zero h = refl
  short i (suc zero) h = refl
  short i (suc (suc m)) h = absurd (omega arith)

  -- The pairs that end below i, from 1 on, rise: what is left says what all say.
  module _ (n : ℕ) where
    pub record Climbing (i : ℕ) : Type 0 where
      pub rest : rising before (tab f (i - 1) (n - (i - 1))) ≡ rising before (tab f 0 n)

    pub climbing_start : Climbing 1
    climbing_start = record { rest = rw (tab_whole f 0 n refl) }

    module _ (i : ℕ) (p : 0 < i) (h : i < n) (s : Climbing i) where
      above : before (f (i - 1)) (f i) && rising before (tab f i (n - i)) ≡ rising before (tab f 0 n)
      unfolding rising
      above =
          let k : i - 1 < n = omega arith in
          let e : i - 1 + 1 ≡ i = omega arith in
          rw (tab_next f i n h) (rw (tab_next f (i - 1) n k, e, tab_next f i n h) at s.rest)

      pub climbing_more : before (f (i - 1)) (f i) ≡ true → Climbing (i + 1)
      climbing_more t = let e : i + 1 - 1 ≡ i = omega arith in record { rest = rw e (rw t at above) }

      pub climbing_stop : before (f (i - 1)) (f i) ≡ false → false ≡ rising before (tab f 0 n)
      climbing_stop t = rw t at above

    pub climbing_end : (i : ℕ) → n ≤ i → Climbing i → true ≡ rising before (tab f 0 n)
    climbing_end i h s = sym (short (i - 1) (n - (i - 1)) (omega arith)) ∙ s.rest
