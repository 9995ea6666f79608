-- Local horizons rise, from the last to the first.
use mathlib.Core.Path.{◌≡◌, refl, sym, ap, ◌∙◌}
use mathlib.Core.Logic.{◌≢◌}
use mathlib.Core.Bool.{Bool, false, ◌||◌}
use mathlib.Core.List.{List, [], ◌∷◌}
use Prim.Native.Nat.{ℕ, zero, suc, ◌+◌, ◌-◌, ◌*◌, ◌≤◌, ◌<◌, min, max}
use native.Mathlib.Omega.{arith}
use lib.Dec.{ltb}
use lib.ListN.{length}
use Rattle.types.specs.declared.SimTime.{SimTime}
use Rattle.types.specs.Value.{ticks_of}
use Rattle.words.specs.Words.{tab, tick_of, inbound_at, RaisesTick}
use Rattle.words.proofs.Tab.{tab_cong, tab_step, tab_none, tab_whole, Pass, pass_start, pass_more, pass_end}
use Rattle.words.proofs.Ticks.{table_other, by_rise, raised_same, raised_told}
use Rattle.rules.specs.Refresh.{least, raised}
use Rattle.rules.specs.Step.{any_raised}
use Rattle.inbound.specs.Inbound.{frontier_in}
use Rattle.frontiers.specs.declared.Raised.{Raised}
use Rattle.frontiers.specs.InputFrontiers.{lesser, RaisedHorizon, RaisedHorizons}

pub horizon_rises : (f w u : List ℕ) (H i : ℕ) (b : Raised) (front tick to h low least : SimTime) (t r : Bool) → i < 64 → length w ≡ 256
    → ticks_of front ≡ frontier_in w H i → ticks_of tick ≡ tick_of f i → ticks_of to ≡ min (ticks_of front) (ticks_of tick) → RaisesTick w (2 * i) to u t → ticks_of h ≡ tick_of u i
    → ticks_of low ≡ min (ticks_of b.tick) (ticks_of tick) → ticks_of least ≡ min (ticks_of b.horizon) (ticks_of h) → r ≡ (t || b.rose)
    → RaisedHorizon i f H b w u (record { tick = low; horizon = least; rose = r })
horizon_rises f w u H i b front tick to h low least t r few l ef ek et s eh el es er = record {
  here = raised_same w (2 * i) to u t s (omega arith) ∙ rw (et, ef, ek);
  others = by_rise w (2 * i) to u t s (λ v _. (k : ℕ) → k ≢ i → tick_of v k ≡ tick_of w k) (λ _ k ne. table_other w i k to ne) (λ _ k ne. refl);
  rose = er ∙ rw (raised_told w (2 * i) to u t s (omega arith));
  tick = el ∙ rw ek;
  horizon = es ∙ rw eh;
}

any_step : (f g : ℕ → ℕ) (i n : ℕ) → 0 < i → i ≤ n → any_raised (tab f (i - 1) (n - (i - 1))) (tab g (i - 1) (n - (i - 1))) ≡ (ltb (f (i - 1)) (g (i - 1)) || any_raised (tab f i (n - i)) (tab g i (n - i)))
unfolding any_raised
any_step f g i n h l = rw (tab_step f i n h l, tab_step g i n h l)

-- The least of more numbers: from the first on, or with the first last.
pub least_min : (m x : ℕ) (xs : List ℕ) → least (min m x) xs ≡ min (least m xs) x
unfolding least
least_min m x [] = refl
least_min m x (y ∷ ys) = let e : min (min m x) y ≡ min (min m y) x = omega arith in rw e (least_min (min m y) x ys)

least_step : (f : ℕ → ℕ) (m i n : ℕ) → 0 < i → i ≤ n → least m (tab f (i - 1) (n - (i - 1))) ≡ min (least m (tab f i (n - i))) (f (i - 1))
unfolding least
least_step f m i n h l = rw (tab_step f i n h l) (least_min m (f (i - 1)) (tab f i (n - i)))

raised_tab : (to f : ℕ → ℕ) (i n : ℕ) → raised to i (tab f i n) ≡ tab (λ k. max (f k) (to k)) i n
unfolding raised tab
raised_tab to f i zero = refl
raised_tab to f i (suc n) = ap (λ (l : List ℕ). max (f i) (to i) ∷ l) (raised_tab to f (suc i) n)

module _ (n : ℕ) (f : List ℕ) (H : ℕ) (w₀ : List ℕ) where
  abbrev risen : ℕ → ℕ → ℕ
  risen k h = max h (lesser w₀ H f k)

  -- Those from i on are raised, and the record is as it was; b is found of them.
  pub record Rising (i : ℕ) (w : List ℕ) (b : Raised) : Type 0 where
    pub pass : Pass tick_of risen n w₀ i w
    pub inbound : (p : ℕ) → inbound_at w p ≡ inbound_at w₀ p
    pub rose : b.rose ≡ any_raised (tab (tick_of w₀) i (n - i)) (tab (tick_of w) i (n - i))
    pub tick : ticks_of b.tick ≡ least H (tab (tick_of f) i (n - i))
    pub horizon : ticks_of b.horizon ≡ least H (tab (tick_of w) i (n - i))

  pub rising_start : (top : SimTime) → ticks_of top ≡ H → Rising n w₀ (record { tick = top; horizon = top; rose = false })
  unfolding any_raised least
  rising_start top e = record {
    pass = pass_start tick_of risen n w₀;
    inbound = λ p. refl;
    rose = rw (tab_none (tick_of w₀) n n (omega arith));
    tick = e ∙ rw (tab_none (tick_of f) n n (omega arith));
    horizon = e ∙ rw (tab_none (tick_of w₀) n n (omega arith));
  }

  pub rising_more : (i : ℕ) (w u : List ℕ) (b r : Raised) → 0 < i → i ≤ n → n ≤ 64 → Rising i w b → RaisedHorizon (i - 1) f H b w u r → Rising (i - 1) u r
  rising_more i w u b r h within few s l =
      let same : tab (tick_of u) i (n - i) ≡ tab (tick_of w) i (n - i) = tab_cong _ _ i (n - i) (λ k x y. l.others k (λ e. omega arith)) in
      record {
        pass = pass_more tick_of risen n i w₀ w u h s.pass (l.here ∙ ap (λ (x : ℕ). max (tick_of w (i - 1)) (min (min x H) (tick_of f (i - 1)))) (s.inbound (i - 1))) l.others;
        inbound = λ p. l.others (64 + p) (λ e. omega arith) ∙ s.inbound p;
        rose = l.rose ∙ rw (s.rose, s.pass.ahead (i - 1) (omega arith), ← same) (sym (any_step (tick_of w₀) (tick_of u) i n h within));
        tick = l.tick ∙ rw s.tick (sym (least_step (tick_of f) H i n h within));
        horizon = l.horizon ∙ rw (s.horizon, ← same) (sym (least_step (tick_of u) H i n h within));
      }

  pub rising_end : (i : ℕ) (w : List ℕ) (b : Raised) → i ≤ 0 → Rising i w b → RaisedHorizons n f H w₀ w b
  rising_end i w b o s =
      let e : i ≡ 0 = omega arith in
      record {
        horizons = pass_end tick_of risen n i w₀ w e s.pass ∙ sym (raised_tab (lesser w₀ H f) (tick_of w₀) 0 n);
        inbound = s.inbound;
        rose = s.rose ∙ rw (tab_whole (tick_of w₀) i n e, tab_whole (tick_of w) i n e);
        tick = s.tick ∙ rw (tab_whole (tick_of f) i n e);
        horizon = s.horizon ∙ rw (tab_whole (tick_of w) i n e);
      }
