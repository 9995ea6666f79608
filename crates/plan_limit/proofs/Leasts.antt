-- The least of a table of ticks, one after the other.
use Prim.Native.Nat.{ℕ, ◌+◌, ◌-◌, ◌≤◌, ◌<◌, min}
use mathlib.Core.Path.{◌≡◌, ap}
use mathlib.Core.List.{List}
use native.Mathlib.Omega.{arith}
use Rattle.rules.specs.Build.{least_lookahead}
use Rattle.rules.specs.Refresh.{least}
use Rattle.words.specs.Words.{tab, tick_of, ticks_in}
use Rattle.words.proofs.Tab.{tab_next, tab_none}

-- The least of m and those from place i on, of n.
unfoldable pub least_from : List ℕ → ℕ → ℕ → ℕ → ℕ
least_from w n m i = least m (tab (tick_of w) i (n - i))

module _ (w : List ℕ) (n : ℕ) where
  pub no_edge : (L : ℕ) → n ≡ 0 → L ≡ least_lookahead L (ticks_in n w)
  unfolding least_lookahead tab
  no_edge L z = rw z

  pub some_edge : (L : ℕ) → 0 < n → least_from w n (tick_of w 0) 1 ≡ least_lookahead L (ticks_in n w)
  unfolding least_lookahead least_from
  some_edge L h =
      let e : n - 0 ≡ n = omega arith in
      let t : tab (tick_of w) 0 n ≡ _ = rw e at (tab_next (tick_of w) 0 n h) in
      rw t

  pub least_first : (t : ℕ) → t ≡ tick_of w 0 → least_from w n t 1 ≡ least_from w n (tick_of w 0) 1
  least_first t e = ap (λ (m : ℕ). least_from w n m 1) e

  next_one : (m i x : ℕ) → i < n → least_from w n m i ≡ x → least_from w n (min m (tick_of w i)) (i + 1) ≡ x
  unfolding least_from least
  next_one m i x h e = rw (tab_next (tick_of w) i n h) at e

  -- r is the lesser of m and t, the one at place i.
  pub least_more : (m i t r x : ℕ) → i < n → t ≡ tick_of w i → r ≡ min m t → least_from w n m i ≡ x → least_from w n r (i + 1) ≡ x
  least_more m i t r x h a s e = rw (s, a) (next_one m i x h e)

  pub least_end : (m i : ℕ) → n ≤ i → least_from w n m i ≡ m
  unfolding least_from least
  least_end m i h = rw (tab_none (tick_of w) i n h)
