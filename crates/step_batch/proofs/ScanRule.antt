-- The pass takes what the rule takes: laws on lists alone.
use mathlib.Core.Path.{◌≡◌, refl, sym, ap, ◌∙◌}
use mathlib.Core.Bool.{Bool, true, false, ◌&&◌, and-false}
use mathlib.Core.List.{List, [], ◌∷◌}
use Prim.Native.Nat.{ℕ, zero, suc, ◌+◌, ◌-◌, ◌≤◌, ◌<◌, max}
use native.Mathlib.Omega.{arith}
use lib.Dec.{leb, ltb, eqb}
use borrow.Author.Tests.{eq-eqb, ne_eqb, le-leb, lt-leb, lt-ltb, leb-true, ltb-true}
use Rattle.rules.specs.Base.{if◌then◌otherwise◌, Maybe, none, some, up_from}
use Rattle.rules.specs.State.{Event}
use Rattle.rules.specs.Pending.{first_of, without_first}
use Rattle.rules.specs.Frontiers.{safe, below, eligible}
use Rattle.rules.specs.Step.{BatchTaken, take_eligible_at, take_eligible}
use Rattle.rules.proofs.Tests.{and_left, and_right}
use Rattle.rules.proofs.Lists.{All}
use mathlib.Core.Logic.{⊎_elim}
use Rattle.types.proofs.Halves.{lt_or_ge}
use Rattle.step_batch.specs.ScanRule.{to_batch, kept_pending, takes, seen_by, scan}

-- A turn of the pass.
pub scan_take : (front : ℕ → ℕ) (room seen : ℕ) (e : Event) (q : List Event) → takes front room seen e ≡ true → scan front room seen (e ∷ q) ≡ to_batch e (scan front (room - 1) (seen_by seen e) q)
unfolding scan if◌then◌otherwise◌
scan_take front room seen e q t = rw t

pub scan_keep : (front : ℕ → ℕ) (room seen : ℕ) (e : Event) (q : List Event) → takes front room seen e ≡ false → scan front room seen (e ∷ q) ≡ kept_pending e (scan front room (seen_by seen e) q)
unfolding scan if◌then◌otherwise◌
scan_keep front room seen e q t = rw t

-- What is taken has a process that was not seen, and room
pub takes_means : (front : ℕ → ℕ) (room seen : ℕ) (e : Event) → takes front room seen e ≡ true → (seen ≤ e.destination) × (0 < room)
unfolding takes
takes_means front room seen e t =
    let a = leb seen e.destination in
    let b = ltb 0 room in
    let c = ltb e.tick (front e.destination) in
    (leb-true seen e.destination (and_left a (b && c) t), ltb-true 0 room (and_left b c (and_right a (b && c) t)))

-- The pass takes what the rule takes

abbrev pub Sorted : List Event → Type 0
Sorted [] = Unit {0}
Sorted (e ∷ q) = All (λ (f : Event). e.destination ≤ f.destination) q × Sorted q

and_no : (a b : Bool) → (a && (b && false)) ≡ false
and_no true true = refl
and_no true false = refl
and_no false b = refl

module _ (inbounds : List ℕ) (H : ℕ) where
  abbrev front : ℕ → ℕ
  front p = safe inbounds H p

  abbrev rule : ℕ → ℕ → ℕ → List Event → BatchTaken
  rule i k room q = take_eligible inbounds H (up_from i k) room q

  -- tests of the pass
  takes_seen : (room seen : ℕ) (e : Event) → e.destination < seen → takes front room seen e ≡ false
  unfolding takes
  takes_seen room seen e h = rw (lt-leb seen e.destination h)

  takes_full : (seen : ℕ) (e : Event) → takes front 0 seen e ≡ false
  unfolding takes
  takes_full seen e = and-false (leb seen e.destination)

  takes_late : (room seen : ℕ) (e : Event) → ltb e.tick (front e.destination) ≡ false → takes front room seen e ≡ false
  unfolding takes
  takes_late room seen e t = rw t (and_no (leb seen e.destination) (ltb 0 room))

  takes_yes : (r seen : ℕ) (e : Event) → seen ≤ e.destination → ltb e.tick (front e.destination) ≡ true → takes front (suc r) seen e ≡ true
  unfolding takes
  takes_yes r seen e h t = rw (le-leb seen e.destination h, lt-ltb 0 (suc r) (omega arith), t)

  -- without room nothing is taken
  scan_full : (seen : ℕ) (q : List Event) → scan front 0 seen q ≡ record { events = []; left = q }
  unfolding scan
  scan_full seen [] = refl
  scan_full seen (e ∷ q) = scan_keep front 0 seen e q (takes_full seen e) ∙ ap (kept_pending e) (scan_full (seen_by seen e) q)

  -- a process that has no event
  scan_on : (room i : ℕ) (e : Event) (q : List Event) → i < e.destination → scan front room i (e ∷ q) ≡ scan front room (suc i) (e ∷ q)
  unfolding scan takes
  scan_on room i e q h =
      let a : leb i e.destination ≡ true = le-leb i e.destination (omega arith) in
      let b : leb (suc i) e.destination ≡ true = le-leb (suc i) e.destination (omega arith) in
      let c : max i (e.destination + 1) ≡ e.destination + 1 = omega arith in
      let d : max (suc i) (e.destination + 1) ≡ e.destination + 1 = omega arith in
      rw (a, b, c, d)

  -- the first event of p, and the others
  first_here : (e : Event) (q : List Event) (p : ℕ) → eqb e.destination p ≡ true → first_of (e ∷ q) p ≡ some e
  unfolding first_of if◌then◌otherwise◌
  first_here e q p t = rw t

  first_there : (e : Event) (q : List Event) (p : ℕ) → eqb e.destination p ≡ false → first_of (e ∷ q) p ≡ first_of q p
  unfolding first_of if◌then◌otherwise◌
  first_there e q p t = rw t

  drop_here : (e : Event) (q : List Event) (p : ℕ) → eqb e.destination p ≡ true → without_first (e ∷ q) p ≡ q
  unfolding without_first if◌then◌otherwise◌
  drop_here e q p t = rw t

  drop_there : (e : Event) (q : List Event) (p : ℕ) → eqb e.destination p ≡ false → without_first (e ∷ q) p ≡ e ∷ without_first q p
  unfolding without_first if◌then◌otherwise◌
  drop_there e q p t = rw t

  first_none : (q : List Event) (p : ℕ) → All (λ (f : Event). p < f.destination) q → first_of q p ≡ none
  unfolding first_of
  first_none [] p a = refl
  first_none (e ∷ q) p a = first_there e q p (ne_eqb e.destination p (λ x. omega (arith, a.0))) ∙ first_none q p a.1

  eligible_yes : (e : Event) (k : ℕ) → ltb e.tick k ≡ true → below k (some e) ≡ some e
  unfolding below if◌then◌otherwise◌
  eligible_yes e k t = rw t

  eligible_no : (e : Event) (k : ℕ) → ltb e.tick k ≡ false → below k (some e) ≡ none
  unfolding below if◌then◌otherwise◌
  eligible_no e k t = rw t

  batch_is : (i k room : ℕ) (q : List Event) (m : Maybe Event) → below (front i) (first_of q i) ≡ m → rule i (suc k) room q ≡ take_eligible_at m i q room (rule (suc i) k)
  unfolding take_eligible up_from eligible
  batch_is i k room q m e = rw e

  batch_nil : (k i room : ℕ) → rule i k room [] ≡ record { events = []; left = [] }
  unfolding take_eligible take_eligible_at up_from first_of below eligible
  batch_nil zero i room = refl
  batch_nil (suc k) i room = batch_nil k (suc i) room

  -- an event of a process below i is kept
  past_take_one : (m : Maybe Event) (e : Event) (q : List Event) (i k room : ℕ) → eqb e.destination i ≡ false
      → ((r : ℕ) (u : List Event) → rule (suc i) k r (e ∷ u) ≡ kept_pending e (rule (suc i) k r u))
      → take_eligible_at m i (e ∷ q) room (rule (suc i) k) ≡ kept_pending e (take_eligible_at m i q room (rule (suc i) k))
  unfolding take_eligible_at
  past_take_one none e q i k room t ih = ih room q
  past_take_one (some x) e q i k zero t ih = refl
  past_take_one (some x) e q i k (suc r) t ih = rw (drop_there e q i t) (ap (to_batch x) (ih r (without_first q i)))

  past : (k i room : ℕ) (e : Event) (q : List Event) → e.destination < i → rule i k room (e ∷ q) ≡ kept_pending e (rule i k room q)
  unfolding take_eligible up_from eligible
  past zero i room e q h = refl
  past (suc k) i room e q h =
      let t : eqb e.destination i ≡ false = ne_eqb e.destination i (λ x. omega arith) in
      rw (first_there e q i t) (past_take_one (below (front i) (first_of q i)) e q i k room t (λ r u. past k (suc i) r e u (omega arith)))

  -- an event of process i, the first of the list
  here : (k i room : ℕ) (e : Event) (q : List Event) → e.destination ≡ i
      → ((r : ℕ) → rule (suc i) k r q ≡ scan front r (suc i) q) → rule i (suc k) room (e ∷ q) ≡ scan front room i (e ∷ q)
  unfolding take_eligible_at
  here k i room e q d ih = go (ltb e.tick (front e.destination)) refl room
    where
      t : eqb e.destination i ≡ true
      t = eq-eqb e.destination i d

      seen : seen_by i e ≡ suc i
      seen = omega arith

      next : (r : ℕ) → to_batch e (scan front (suc r - 1) (seen_by i e) q) ≡ to_batch e (scan front r (suc i) q)
      next r = let z : suc r - 1 ≡ r = omega arith in rw (seen, z)

      go : (b : Bool) → ltb e.tick (front e.destination) ≡ b → (room : ℕ) → rule i (suc k) room (e ∷ q) ≡ scan front room i (e ∷ q)
      go true l zero =
          batch_is i k 0 (e ∷ q) (some e) (rw (first_here e q i t) (eligible_yes e (front i) (rw d at l)))
          ∙ sym (scan_full i (e ∷ q))
      go true l (suc r) =
          batch_is i k (suc r) (e ∷ q) (some e) (rw (first_here e q i t) (eligible_yes e (front i) (rw d at l)))
          ∙ ap (λ (u : List Event). to_batch e (rule (suc i) k r u)) (drop_here e q i t) ∙ ap (to_batch e) (ih r)
          ∙ sym (scan_take front (suc r) i e q (takes_yes r i e (omega arith) l) ∙ next r)
      go false l room =
          batch_is i k room (e ∷ q) none (rw (first_here e q i t) (eligible_no e (front i) (rw d at l)))
          ∙ past k (suc i) room e q (omega arith) ∙ ap (kept_pending e) (ih room)
          ∙ sym (scan_keep front room i e q (takes_late room i e l) ∙ rw seen)

  all_above : (i d : ℕ) (q : List Event) → i < d → All (λ (f : Event). d ≤ f.destination) q → All (λ (f : Event). i < f.destination) q
  all_above i d [] h a = a
  all_above i d (f ∷ q) h a = (omega (arith, a.0), all_above i d q h a.1)

  all_up : (i k : ℕ) (q : List Event) → All (λ (f : Event). f.destination < i + suc k) q → All (λ (f : Event). f.destination < suc i + k) q
  all_up i k [] a = a
  all_up i k (f ∷ q) a = (omega (arith, a.0), all_up i k q a.1)

  none_is : (k : ℕ) → below k none ≡ none
  unfolding below
  none_is k = refl

  none_taken : (i k room : ℕ) (q : List Event) → take_eligible_at none i q room (rule (suc i) k) ≡ rule (suc i) k room q
  unfolding take_eligible_at
  none_taken i k room q = refl

  -- for sorted events of processes below i + k
  pub scan_is : (k i room : ℕ) (q : List Event) → Sorted q → All (λ (f : Event). f.destination < i + k) q → rule i k room q ≡ scan front room i q
  unfolding scan
  scan_is k i room [] s a = batch_nil k i room
  scan_is zero i room (e ∷ q) s a =
      let h : e.destination < i = omega (arith, a.0) in
      let m : seen_by i e ≡ i = omega arith in
      past 0 i room e q h ∙ ap (kept_pending e) (scan_is 0 i room q s.1 a.1) ∙ sym (scan_keep front room i e q (takes_seen room i e h) ∙ rw m)
  scan_is (suc k) i room (e ∷ q) s a =
      ⊎_elim
      (λ (h : e.destination < i).
      let m : seen_by i e ≡ i = omega arith in
      past (suc k) i room e q h ∙ ap (kept_pending e) (scan_is (suc k) i room q s.1 a.1) ∙ sym (scan_keep front room i e q (takes_seen room i e h) ∙ rw m))
      (λ (h : i ≤ e.destination). ⊎_elim
      (λ (g : i < e.destination).
      batch_is i k room (e ∷ q) none (rw (first_none (e ∷ q) i (g, all_above i e.destination q g s.0)) (none_is (front i)))
      ∙ none_taken i k room (e ∷ q) ∙ scan_is k (suc i) room (e ∷ q) s (all_up i k (e ∷ q) a) ∙ sym (scan_on room i e q g))
      (λ (g : e.destination ≤ i). here k i room e q (omega arith) (λ r. scan_is k (suc i) r q s.1 (all_up i k q a.1)))
      (lt_or_ge i e.destination))
      (lt_or_ge e.destination i)

-- frontiers only matter where they are read
pub scan_cong : (f g : ℕ → ℕ) (m room seen : ℕ) (q : List Event) → ((p : ℕ) → p < m → f p ≡ g p) → All (λ (e : Event). e.destination < m) q → scan f room seen q ≡ scan g room seen q
unfolding scan takes
scan_cong f g m room seen [] h a = refl
scan_cong f g m room seen (e ∷ q) h a =
    rw (h e.destination a.0, scan_cong f g m (room - 1) (seen_by seen e) q h a.1, scan_cong f g m room (seen_by seen e) q h a.1)
