-- Step's last branch is never reached, on any state that 11 lets pass: where nothing rises, the run is complete.
use mathlib.Core.Path.{◌≡◌, refl}
use mathlib.Core.Bool.{true, false, not}
use mathlib.Core.List.{List, [], ◌∷◌}
use Prim.Native.Nat.{ℕ, suc, ◌≤◌, ◌<◌, min}
use native.Mathlib.Omega.{arith}
use lib.Dec.{leb, ltb, eqb}
use borrow.Author.Tests.{ltb-true, ltb-false, eqb-true, eqb-false, le-leb}
use Rattle.rules.specs.Base.{Maybe, every, rising, non_empty}
use Rattle.rules.specs.State.{Event, Stored, unset, stored, State, Counters}
use Rattle.rules.specs.Answers.{Answer, refusal_number, number}
use Rattle.rules.specs.Rows.{Out, out}
use Rattle.rules.specs.Pending.{before, first_of, tick_or, first_tick}
use Rattle.rules.specs.Foreign.{foreign}
use Rattle.rules.specs.Refresh.{raised, refresh_to, refreshed}
use Rattle.rules.specs.Step.{input_frontier, any_raised, null_messages_of, new_horizons, any_advanced, advanced, complete, advance, step_run, step_at, step_rows, step}
use Rattle.rules.proofs.Tests.{by_test, not_both, not_false, or_left, or_right, or_cases, and_left, and_right, and_both}
use Rattle.rules.proofs.Lists.{All, all_map, all_both, all_every, empty_nil}
use Rattle.rules.proofs.Table.{by_firsts}
use Rattle.rules.proofs.Cases.{Steps, Advances}
use Rattle.rules.proofs.Shape.{Known, Shaped, shaped}
use Rattle.rules.proofs.Fronts.{lowest, frontier_low, low_unraised, all_raised, all_stay}

-- f stands behind a tick t at destination d.
record Behind (d t : ℕ) (f : Event) : Type 0 where
  reach : d ≤ f.destination
  later : d ≡ f.destination → t ≤ f.tick

before_behind : (e f : Event) → before e f ≡ true → Behind e.destination e.tick f
unfolding before
before_behind e f h =
    or_cases (ltb e.destination f.destination) _ h
    (λ a. record { reach = omega (arith, ltb-true e.destination f.destination a); later = λ d. absurd (omega (arith, ltb-true e.destination f.destination a)) })
    (λ a. let x : e.destination ≡ f.destination = eqb-true e.destination f.destination (and_left (eqb e.destination f.destination) _ a) in
    record {
      reach = omega arith;
      later = λ d. or_cases (ltb e.tick f.tick) _ (and_right (eqb e.destination f.destination) _ a) (λ b. omega (arith, ltb-true e.tick f.tick b)) (λ b. omega (arith, eqb-true e.tick f.tick (and_left (eqb e.tick f.tick) _ b)));
    })

behind_from : (d t : ℕ) (e : Event) (es : List Event) → Behind d t e → rising before (e ∷ es) ≡ true → All (Behind d t) es
unfolding rising
behind_from d t e [] i h = tt
behind_from d t e (f ∷ fs) i h =
    let j = before_behind e f (and_left (before e f) (rising before (f ∷ fs)) h) in
    let k : Behind d t f = record { reach = omega (arith, i.reach, j.reach); later = λ x. omega (arith, i.later (omega (arith, i.reach, j.reach)), j.later (omega (arith, i.reach, j.reach))) } in
    (k, behind_from d t f fs k (and_right (before e f) (rising before (f ∷ fs)) h))

rising_tail : (e : Event) (es : List Event) → rising before (e ∷ es) ≡ true → rising before es ≡ true
unfolding rising
rising_tail e [] h = refl
rising_tail e (f ∷ fs) h = and_right (before e f) (rising before (f ∷ fs)) h

-- In a queue in order, no event comes before the first of its destination.
first_here : (e : Event) (es : List Event) (d : ℕ) → first_tick (e ∷ es) e.destination d ≤ e.tick
unfolding first_tick first_of tick_or
first_here e es d = by_test (λ (m : Maybe Event). tick_or m d ≤ e.tick) (λ t. omega arith) (λ t. absurd (eqb-false e.destination e.destination t refl))

first_there : (e : Event) (es : List Event) (d : ℕ) (f : Event) → Behind e.destination e.tick f × (first_tick es f.destination d ≤ f.tick) → first_tick (e ∷ es) f.destination d ≤ f.tick
unfolding first_tick first_of tick_or
first_there e es d f i = by_test (λ (m : Maybe Event). tick_or m d ≤ f.tick) (λ t. i.0.later (eqb-true e.destination f.destination t)) (λ t. i.1)

pub first_least : (q : List Event) (d : ℕ) → rising before q ≡ true → All (λ (e : Event). first_tick q e.destination d ≤ e.tick) q
first_least [] d h = tt
first_least (e ∷ es) d h =
    let b = behind_from e.destination e.tick e es (record { reach = omega arith; later = λ _. omega arith }) h in
    let F : Event → Type 0 = λ f. first_tick es f.destination d ≤ f.tick in
    (first_here e es d, all_map (λ f. Behind e.destination e.tick f × F f) (λ (f : Event). first_tick (e ∷ es) f.destination d ≤ f.tick) (first_there e es d) es (all_both (Behind e.destination e.tick) F es b (first_least es d (rising_tail e es h))))

-- Where no bound rose at an advance, all were at H; then everybody's input frontier is H, and every first event is there or beyond.
module _ (s : State) (h b : ℕ) (i : Shaped s) (a : Advances s h b) where
  pub bounds_high : (c : ℕ) → suc h ≤ c → null_messages_of s (suc h) ≡ 0 → suc h ≤ lowest s.edges c
  bounds_high c l z = omega (arith, low_unraised s (suc h) (min (suc h) (lowest s.edges c)) 1 (frontier_low s h b c a) s.edges c i.wired.joined i.wired.ahead z)

  pub frontiers_high : null_messages_of s (suc h) ≡ 0 → (p : ℕ) → p < s.n → suc h ≤ input_frontier s (suc h) p
  frontiers_high z p q = omega (arith, frontier_low s h b (suc h) a p q, bounds_high (suc h) (omega arith) z)

  pub horizons_high : (to : ℕ → ℕ) → null_messages_of s (suc h) ≡ 0 → every (leb (suc h)) (raised to 0 (new_horizons s (suc h))) ≡ true
  horizons_high to z = all_stay to (suc h) 0 (new_horizons s (suc h)) (all_raised (input_frontier s (suc h)) (suc h) 0 s.horizons (λ p q. frontiers_high z p (omega (arith, i.sized.wide))))

  frontier_first : (p : ℕ) → suc h ≤ input_frontier s (suc h) p → suc h ≤ first_tick s.pending p (suc h)
  unfolding input_frontier
  frontier_first p l = omega arith

  pending_high : null_messages_of s (suc h) ≡ 0 → every (λ e. leb (suc h) e.tick) s.pending ≡ true
  pending_high z =
      let F : Event → Type 0 = λ e. first_tick s.pending e.destination (suc h) ≤ e.tick in
      all_every (λ (e : Event). leb (suc h) e.tick) s.pending (all_map (λ e. Known s.n e × F e) (λ (e : Event). leb (suc h) e.tick ≡ true)
      (λ e k. le-leb (suc h) e.tick (omega (arith, k.1, frontier_first e.destination (frontiers_high z e.destination k.0.destination))))
      s.pending (all_both (Known s.n) F s.pending i.queued.known (first_least s.pending (suc h) i.queued.order)))

  none_sent : any_advanced s (suc h) ≡ false → null_messages_of s (suc h) ≡ 0
  unfolding any_advanced
  none_sent r = omega (arith, ltb-false 0 (null_messages_of s (suc h)) (or_left (ltb 0 (null_messages_of s (suc h))) (any_raised s.horizons (new_horizons s (suc h))) r))

  finished : any_advanced s (suc h) ≡ false → complete (advanced s h) (suc h) ≡ true
  unfolding complete refreshed
  finished r = and_both (every (leb (suc h)) (raised (refresh_to s.inbound (suc h) s.pending) 0 (new_horizons s (suc h)))) (every (λ e. leb (suc h) e.tick) s.pending) (horizons_high _ (none_sent r)) (pending_high (none_sent r))

pub never_last_branch : (s : State) (h b : ℕ) → Shaped s → Advances s h b → any_advanced s (suc h) ≡ false → complete (advanced s h) (suc h) ≡ true
never_last_branch s h b i a r = finished s h b i a r

-- A step of a runtime that is neither foreign nor poisoned does not answer 12.
unfoldable Calm : Out → Type 0
Calm o = number o.answer ≡ 12 → ⊥

calm_answer : (r : Answer) (t : State) (c : Counters) → eqb (number r) 12 ≡ false → Calm (out r t c)
unfolding Calm
calm_answer r t c e d = eqb-false (number r) 12 e d

module _ (s : State) (c : Counters) (a : foreign s ≡ false) (u : s.poisoned ≡ false) where
  calm_run : (h b : ℕ) → Steps s h b → Calm (step_run s c h b)
  unfolding step_run advance number refusal_number
  calm_run h b i =
      by_test Calm (λ t. calm_answer _ _ _ refl) (λ t. by_test Calm (λ v. calm_answer _ _ _ refl) (λ v. by_test Calm (λ w. calm_answer _ _ _ refl) (λ w.
      by_test Calm (λ x. calm_answer _ _ _ refl) (λ x. not_both (never_last_branch s h b (shaped s a) (record { steps = i; none_taken = t; not_spent = v }) w) x))))

  calm_at : (l : Stored) → s.stored ≡ l → s.running ≡ true → s.batch ≡ [] → Calm (step_at s c l)
  unfolding step_at number refusal_number
  calm_at unset e r z = calm_answer _ _ _ refl
  calm_at (stored h b) e r z = calm_run h b (record { passes = a; healthy = u; open_run = r; empty = z; stored = e })

  calm_step : Calm (step s c)
  unfolding step number refusal_number
  calm_step =
      by_firsts Calm (step_rows s) _ _
      ((λ _. calm_answer _ _ _ refl), λ _. ((λ e. not_both e u), λ _. ((λ _. calm_answer _ _ _ refl), λ _. tt)))
      (λ p. calm_at s.stored refl (not_false s.running (or_left (not s.running) (non_empty s.batch) p.1.1.0)) (empty_nil s.batch (or_right (not s.running) (non_empty s.batch) p.1.1.0)))

pub last_branch : (s : State) (c : Counters) → foreign s ≡ false → s.poisoned ≡ false → number (step s c).answer ≡ 12 → ⊥
unfolding Calm
last_branch s c a u = calm_step s c a u
