-- The emissions of the first event in hand stand in front: a reply is checked in one walk. Lists alone.
use mathlib.Core.Path.{◌≡◌, refl, ap}
use mathlib.Core.Bool.{true, false, not}
use mathlib.Core.List.{List, [], ◌∷◌, ◌++◌}
use Prim.Native.Nat.{ℕ, ◌≤◌, ◌<◌}
use native.Mathlib.Omega.{arith}
use lib.Dec.{ltb, eqb}
use borrow.Author.Tests.{ltb-true, ltb-false, eqb-true, eqb-false, ne_eqb}
use Rattle.rules.specs.Base.{if◌then◌otherwise◌, any, any_of, rising}
use Rattle.rules.specs.State.{Event, State}
use Rattle.rules.specs.Answers as A
use Rattle.rules.specs.Rows.{Row, ◌⇒◌}
use Rattle.rules.specs.Foreign.{by_process}
use Rattle.rules.specs.HandBack.{Emission, failed, emitters_fall, in_batch, malformed, emission_rows, process_rows}
use Rattle.rules.proofs.Tests.{by_bool, or_left, or_right, or_cases, or_else, not_false}
use Rattle.rules.proofs.Lists.{All, all_map, any_none, any_some}
use Rattle.rules.proofs.Order.{Pairs, rising_pairs}
use Rattle.hand_back_emission.specs.Checks.{rows_of}
use Rattle.hand_back_check.specs.EmissionRows.{own_rows, behind}

abbrev pub Earlier : Event → Event → Type 0
Earlier e f = e.destination < f.destination

abbrev pub NotLater : Emission → Emission → Type 0
NotLater x y = x.emitter ≤ y.emitter

abbrev pub From : ℕ → Emission → Type 0
From p x = p ≤ x.emitter

abbrev pub Past : ℕ → Emission → Type 0
Past p x = p < x.emitter

abbrev pub In : List Event → Emission → Type 0
In es x = in_batch es x.emitter ≡ true

-- The events rise by process, the emitters do not fall, and each is among the events.
pub record InTurn (es : List Event) (xs : List Emission) : Type 0 where
  pub events : Pairs Earlier es
  pub emissions : Pairs NotLater xs
  pub known : All (In es) xs

pub past : (p : ℕ) (x : Emission) (xs : List Emission) → Past p x → All (NotLater x) xs → All (Past p) xs
past p x xs h i = all_map (NotLater x) (Past p) (λ y l. omega arith) xs i

pub beyond : (p : ℕ) (x : Emission) → From p x → eqb x.emitter p ≡ false → Past p x
beyond p x h b = let n : (x.emitter ≡ p → ⊥) = eqb-false x.emitter p b in omega arith

module _ (s : State) where
  -- The emissions of an event, where they stand in front.
  none_past : (e : Event) (xs : List Emission) → All (Past e.destination) xs → emission_rows s e xs ≡ []
  unfolding emission_rows if◌then◌otherwise◌
  none_past e [] a = refl
  none_past e (x ∷ xs) a = let n : (x.emitter ≡ e.destination → ⊥) = λ z. omega (arith, a.0) in rw (ne_eqb x.emitter e.destination n) (none_past e xs a.1)

  own_first : (e : Event) (xs : List Emission) → Pairs NotLater xs → All (From e.destination) xs → emission_rows s e xs ≡ own_rows s e.tick e.destination xs
  unfolding emission_rows own_rows rows_of if◌then◌otherwise◌
  own_first e [] o a = refl
  own_first e (x ∷ xs) o a =
      by_bool (eqb x.emitter e.destination)
      (λ b. rw b (ap (λ (l : List Row). rows_of s e.tick x ++ l) (own_first e xs o.1 a.1)))
      (λ b. rw b (none_past e xs (past e.destination x xs (beyond e.destination x a.0 b) o.0)))

  -- A later event has none of them.
  skipped : (f : Event) (p : ℕ) (xs : List Emission) → p < f.destination → emission_rows s f xs ≡ emission_rows s f (behind p xs)
  unfolding emission_rows behind if◌then◌otherwise◌
  skipped f p [] h = refl
  skipped f p (x ∷ xs) h =
      by_bool (eqb x.emitter p)
      (λ b.
      let z : x.emitter ≡ p = eqb-true x.emitter p b in
      let n : (x.emitter ≡ f.destination → ⊥) = λ y. omega arith in
      rw (b, ne_eqb x.emitter f.destination n) (skipped f p xs h))
      (λ b. rw b)

  all_skipped : (mask p : ℕ) (xs : List Emission) (es : List Event) → All (λ (f : Event). p < f.destination) es → process_rows s mask xs es ≡ process_rows s mask (behind p xs) es
  unfolding process_rows
  all_skipped mask p xs [] a = refl
  all_skipped mask p xs (f ∷ fs) a = λ i. (failed mask f.destination ⇒ A.HandlerFailed f.destination) ∷ (skipped f p xs a.0 i ++ all_skipped mask p xs fs a.1 i)

behind_order : (p : ℕ) (xs : List Emission) → Pairs NotLater xs → Pairs NotLater (behind p xs)
unfolding behind if◌then◌otherwise◌
behind_order p [] o = tt
behind_order p (x ∷ xs) o = by_bool (eqb x.emitter p) (λ b. rw b (behind_order p xs o.1)) (λ b. rw b o)

module _ (e : Event) (es : List Event) where
  -- An emitter among the events is the first's process or past it; past it, it is among the others.
  pub in_from : All (Earlier e) es → (x : Emission) → In (e ∷ es) x → From e.destination x
  unfolding in_batch any
  in_from a x h =
      or_cases (eqb e.destination x.emitter) (in_batch es x.emitter) h
      (λ b. omega (arith, eqb-true e.destination x.emitter b))
      (λ b. any_some (λ (f : Event). eqb f.destination x.emitter) es b (all_map (Earlier e) (λ (f : Event). eqb f.destination x.emitter ≡ true → From e.destination x) (λ f l c. omega (arith, eqb-true f.destination x.emitter c)) es a))

  in_rest : (x : Emission) → In (e ∷ es) x → Past e.destination x → In es x
  unfolding in_batch any
  in_rest x h l = or_else (eqb e.destination x.emitter) (in_batch es x.emitter) (ne_eqb e.destination x.emitter (λ z. omega arith)) h

  all_rest : (xs : List Emission) → All (In (e ∷ es)) xs → All (Past e.destination) xs → All (In es) xs
  all_rest [] a b = tt
  all_rest (x ∷ xs) a b = (in_rest x a.0 b.0, all_rest xs a.1 b.1)

  known_behind : (xs : List Emission) → Pairs NotLater xs → All (From e.destination) xs → All (In (e ∷ es)) xs → All (In es) (behind e.destination xs)
  unfolding behind if◌then◌otherwise◌
  known_behind [] o a k = tt
  known_behind (x ∷ xs) o a k =
      by_bool (eqb x.emitter e.destination)
      (λ b. rw b (known_behind xs o.1 a.1 k.1))
      (λ b.
      let l : Past e.destination x = beyond e.destination x a.0 b in
      rw b (all_rest (x ∷ xs) k (l, past e.destination x xs l o.0)))

  -- One event's turn.
  module _ (xs : List Emission) (t : InTurn (e ∷ es) xs) where
    pub from : All (From e.destination) xs
    from = all_map (In (e ∷ es)) (From e.destination) (in_from t.events.0) xs t.known

    pub turn : (s : State) (mask : ℕ) → process_rows s mask xs (e ∷ es) ≡ (failed mask e.destination ⇒ A.HandlerFailed e.destination) ∷ (own_rows s e.tick e.destination xs ++ process_rows s mask (behind e.destination xs) es)
    unfolding process_rows
    turn s mask = λ i. (failed mask e.destination ⇒ A.HandlerFailed e.destination) ∷ (own_first s e xs t.emissions from i ++ all_skipped s mask e.destination xs es t.events.0 i)

    pub turn_rest : InTurn es (behind e.destination xs)
    turn_rest = record { events = t.events.1; emissions = behind_order e.destination xs t.emissions; known = known_behind xs t.emissions from t.known }

-- A reply that is not malformed.
fall_order : (xs : List Emission) → emitters_fall xs ≡ false → Pairs NotLater xs
unfolding emitters_fall
fall_order [] h = tt
fall_order (x ∷ []) h = (tt, tt)
fall_order (x ∷ y ∷ ys) h =
    let l : NotLater x y = ltb-false y.emitter x.emitter (or_left (ltb y.emitter x.emitter) (emitters_fall (y ∷ ys)) h) in
    let i = fall_order (y ∷ ys) (or_right (ltb y.emitter x.emitter) (emitters_fall (y ∷ ys)) h) in
    ((l, all_map (NotLater y) (NotLater x) (λ z m. omega arith) ys i.0), i)

pub well_formed : (es : List Event) (mask : ℕ) (xs : List Emission) → rising by_process es ≡ true → malformed es mask xs ≡ false → InTurn es xs
unfolding malformed any_of any
well_formed es mask xs r m = record {
  events = rising_pairs by_process Earlier (λ e f h. ltb-true e.destination f.destination h) (λ e f g h k. omega arith) es r;
  emissions = fall_order xs (or_left (emitters_fall xs) _ m);
  known = all_map (λ x. not (in_batch es x.emitter) ≡ false) (In es) (λ x h. not_false _ h) xs (any_none _ xs (or_left _ _ (or_right (emitters_fall xs) _ m)));
}
