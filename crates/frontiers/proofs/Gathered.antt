-- GVT is the least of the first ticks and one less than the least local horizon, both at most H.
use mathlib.Core.Path.{◌≡◌, ap, ◌∙◌}
use mathlib.Core.Bool.{true}
use mathlib.Core.List.{List, [], ◌∷◌, map}
use Prim.Native.Nat.{ℕ, suc, ◌-◌, ◌≤◌, ◌<◌, min, max}
use native.Mathlib.Omega.{arith}
use Rattle.words.specs.Words.{tick_of, ticks_in}
use Rattle.records.specs.Queue.{event_ticks}
use Rattle.records.proofs.Placing.{all_at, at_all}
use Rattle.rules.specs.Base.{Maybe, rising}
use Rattle.rules.specs.State.{Event}
use Rattle.rules.specs.Pending.{before, first_of, tick_or, first_tick}
use Rattle.rules.specs.Refresh.{least, gvt_of}
use Rattle.rules.proofs.Tests.{by_test}
use Rattle.rules.proofs.Lists.{All, all_map, all_both, all_mapped}
use Rattle.rules.proofs.Shape.{Known}
use Rattle.rules.proofs.LastBranch.{first_least}
use Rattle.frontiers.specs.Tables.{FirstTicks}
use Rattle.frontiers.proofs.RaisingHorizons.{least_min}

-- The least is at most m and each of the numbers, and the largest that is.
least_cap : (m : ℕ) (xs : List ℕ) → least m xs ≤ m
unfolding least
least_cap m [] = omega arith
least_cap m (x ∷ xs) = omega (arith, least_cap (min m x) xs)

least_each : (m : ℕ) (xs : List ℕ) → All (λ (x : ℕ). least m xs ≤ x) xs
unfolding least
least_each m [] = tt
least_each m (x ∷ xs) = (omega (arith, least_cap (min m x) xs), least_each (min m x) xs)

least_most : (k m : ℕ) (xs : List ℕ) → k ≤ m → All (λ (x : ℕ). k ≤ x) xs → k ≤ least m xs
unfolding least
least_most k m [] h a = h
least_most k m (x ∷ xs) h a = least_most k (min m x) xs (omega (arith, a.0)) a.1

-- The least of all h - 1 is one less than the least h, where what it is capped by allows.
one_lower : (m k h : ℕ) → m ≤ k - 1 → min m (h - 1) ≤ min k h - 1
one_lower m k h l = omega arith

one_less : (m h x : ℕ) → x ≤ h → min (min m (h - 1)) (x - 1) ≡ min m (x - 1)
one_less m h x l = omega arith

least_before : (m k : ℕ) (hs : List ℕ) → m ≤ k - 1 → least m (map (λ h. h - 1) hs) ≡ min m (least k hs - 1)
unfolding least
least_before m k [] l = omega arith
least_before m k (h ∷ hs) l =
    least_before (min m (h - 1)) (min k h) hs (one_lower m k h l)
    ∙ one_less m h (least (min k h) hs) (omega (arith, least_cap (min k h) hs))

-- A first tick is one of the ticks, or d.
first_most : (k d p : ℕ) (q : List Event) → k ≤ d → All (λ (e : Event). k ≤ e.tick) q → k ≤ first_tick q p d
unfolding first_tick first_of tick_or
first_most k d p [] h a = h
first_most k d p (e ∷ es) h a = by_test (λ (m : Maybe Event). k ≤ tick_or m d) (λ _. a.0) (λ _. first_most k d p es h a.1)

-- Where events are in order and of processes below n, the least of their ticks is that of the first ticks: a process's first is its least, and one without events has H, which the horizon is below.
module _ (n horizon : ℕ) (q : List Event) (first : List ℕ) (order : rising before q ≡ true) (known : All (Known n) q) (firsts : FirstTicks n q (suc horizon) first) where
  abbrev ticks : ℕ
  ticks = least horizon (event_ticks q)

  abbrev entries : ℕ
  entries = least horizon (ticks_in n first)

  below_tick : (e : Event) → Known n e × (first_tick q e.destination (suc horizon) ≤ e.tick) → entries ≤ e.tick
  unfolding FirstTicks
  below_tick e k =
      let a : entries ≤ tick_of first e.destination = all_at (λ (x : ℕ). entries ≤ x) (tick_of first) 0 n e.destination (least_each horizon (ticks_in n first)) (omega arith) (omega (arith, k.0.destination)) in
      omega (arith, a, firsts e.destination k.0.destination, k.1)

  below_ticks : All (λ (e : Event). entries ≤ e.tick) q
  below_ticks =
      let F : Event → Type 0 = λ e. first_tick q e.destination (suc horizon) ≤ e.tick in
      all_map (λ e. Known n e × F e) (λ (e : Event). entries ≤ e.tick) below_tick q (all_both (Known n) F q known (first_least q (suc horizon) order))

  of_ticks : All (λ (e : Event). ticks ≤ e.tick) q
  of_ticks = unmapped q (least_each horizon (event_ticks q))
    where
      unmapped : (es : List Event) → All (λ (x : ℕ). ticks ≤ x) (event_ticks es) → All (λ (e : Event). ticks ≤ e.tick) es
      unmapped [] a = tt
      unmapped (e ∷ es) a = (a.0, unmapped es a.1)

  below_entry : (p : ℕ) → p < n → ticks ≤ tick_of first p
  unfolding FirstTicks
  below_entry p l = omega (arith, firsts p l, first_most ticks (suc horizon) p q (omega (arith, least_cap horizon (event_ticks q))) of_ticks)

  least_firsts : entries ≡ ticks
  least_firsts =
      let a : entries ≤ ticks = least_most entries horizon (event_ticks q) (least_cap horizon (ticks_in n first)) (all_mapped (λ (x : ℕ). entries ≤ x) (λ (e : Event). e.tick) q below_ticks) in
      let b : ticks ≤ entries = least_most ticks horizon (ticks_in n first) (least_cap horizon (event_ticks q)) (at_all (λ (x : ℕ). ticks ≤ x) (tick_of first) 0 n (λ p _ l. below_entry p (omega arith))) in
      omega arith

  pub gvt_is : (g : ℕ) (hs : List ℕ) → gvt_of g horizon q hs ≡ max g (min (least (suc horizon) (ticks_in n first)) (least (suc horizon) hs - 1))
  unfolding gvt_of
  gvt_is g hs =
      let a : least ticks (map (λ h. h - 1) hs) ≡ min ticks (least (suc horizon) hs - 1) = least_before ticks (suc horizon) hs (omega (arith, least_cap horizon (event_ticks q))) in
      let c : min (suc horizon) horizon ≡ horizon = omega arith in
      let b : entries ≡ min (least (suc horizon) (ticks_in n first)) horizon = rw c at (least_min (suc horizon) horizon (ticks_in n first)) in
      let x : least ticks (map (λ h. h - 1) hs) ≡ min (least (suc horizon) (ticks_in n first)) (least (suc horizon) hs - 1) = omega (arith, a, b, least_firsts, least_cap (suc horizon) hs) in
      ap (max g) x
