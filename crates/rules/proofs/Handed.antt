-- What is handed out: each batch keeps the order of what each process was handed, and nothing that stays pending is below it.
use mathlib.Core.Path.{◌≡◌, refl, sym, subst, ◌∙◌}
use mathlib.Core.Bool.{Bool, true, false}
use mathlib.Core.List.{List, [], ◌∷◌}
use Prim.Native.Nat.{ℕ, zero, suc, ◌≤◌, ◌<◌}
use native.Mathlib.Omega.{arith}
use lib.Dec.{eqb}
use lib.ListN.{get_or}
use borrow.Author.Tests.{eqb-false}
use Rattle.rules.specs.Base.{if◌then◌otherwise◌, some, up_from}
use Rattle.rules.specs.State.{Event, Message, numbered}
use Rattle.rules.specs.Pending.{insert, first_of, without_first, queue}
use Rattle.rules.specs.Step.{BatchTaken, take_eligible}
use Rattle.rules.specs.History.{Entry, events}
use Rattle.rules.proofs.Lists.{All, all_map}
use Rattle.rules.proofs.Order.{Before, Sorted, all_insert, all_without, all_first, sorted_without, first_destination}
use Rattle.rules.proofs.Take.{take_cases}
use Rattle.rules.proofs.Fair.{Le, Last, Floor}

-- The events es were handed out after those of g, which stand with the last first.
abbrev pub handed_on : List Event → List Event → List Event
handed_on [] g = g
handed_on (e ∷ es) g = handed_on es (e ∷ g)

unfoldable pub given : List Entry → List Event
given [] = []
given (e ∷ es) = handed_on (events e.answer) (given es)

pub all_handed : (P : Event → Type 0) (es g : List Event) → All P es → All P g → All P (handed_on es g)
all_handed P [] g i j = j
all_handed P (e ∷ es) g i j = all_handed P es (e ∷ g) i.1 (i.0, j)

-- No event is below an earlier one of its process.
abbrev pub Ordered : List Event → Type 0
Ordered [] = Unit {0}
Ordered (e ∷ g) = Last g e × Ordered g

-- Nothing pending is below what its process was handed.
abbrev pub Above : List Event → List Event → Type 0
Above g q = All (λ d. All (λ f. Le d f) q) g

-- p's first event is not above what is left there.
first_le : (q : List Event) (p : ℕ) (e : Event) → first_of q p ≡ some e → Sorted q → All (λ f. Le e f) (without_first q p)
unfolding first_of without_first if◌then◌otherwise◌
first_le [] p e h i = tt
first_le (f ∷ fs) p e h i = go (eqb f.destination p) refl h (first_le fs p e)
  where
    go : (t : Bool) → eqb f.destination p ≡ t → (if t then some f otherwise first_of fs p) ≡ some e → (first_of fs p ≡ some e → Sorted fs → All (λ r. Le e r) (without_first fs p)) → All (λ r. Le e r) (if t then fs otherwise f ∷ without_first fs p)
    go true d h ih = let z : f ≡ e = cc in subst (λ (x : Event). All (λ r. Le x r) fs) z (all_map (Before f) (λ r. Le f r) (λ r b. b.ticks) fs i.0)
    go false d h ih = ((λ x. absurd (eqb-false f.destination p d (sym x ∙ first_destination fs p e h))), ih h i.1)

above_first : (g q : List Event) (p : ℕ) (e : Event) → first_of q p ≡ some e → Above g q → Last g e
above_first g q p e h a = all_map (λ d. All (λ x. Le d x) q) (λ d. Le d e) (λ d y. all_first (λ x. Le d x) q p e h y) g a

above_without : (g q : List Event) (p : ℕ) → Above g q → Above g (without_first q p)
above_without g q p a = all_map (λ d. All (λ x. Le d x) q) (λ d. All (λ x. Le d x) (without_first q p)) (λ d y. all_without (λ x. Le d x) q p y) g a

-- What is taken.
pub record Good (g : List Event) (t : BatchTaken) : Type 0 where
  pub order : Ordered (handed_on t.events g)
  pub above : Above (handed_on t.events g) t.left

pub take_good : (mins : List ℕ) (H : ℕ) (ps : List ℕ) (k : ℕ) (q g : List Event) → Sorted q → Above g q → Ordered g → Good g (take_eligible mins H ps k q)
unfolding take_eligible
take_good mins H [] k q g s a o = record { order = o; above = a }
take_good mins H (p ∷ ps) k q g s a o =
    take_cases mins H (λ _ t. Good g t) p ps k q (take_good mins H ps k q g s a o) (record { order = o; above = a })
    (λ j e h f l.
    let r = take_good mins H ps j (without_first q p) (e ∷ g) (sorted_without q p s) (first_le q p e f s, above_without g q p a) (above_first g q p e f a, o) in
    record { order = r.order; above = r.above })

-- Later processes' events are none of an earlier process.
take_keeps : (mins : List ℕ) (H i n k : ℕ) (q g : List Event) (b : Event) → b.destination < i → Last g b → Last (handed_on (take_eligible mins H (up_from i n) k q).events g) b
unfolding take_eligible up_from
take_keeps mins H i zero k q g b l a = a
take_keeps mins H i (suc n) k q g b l a =
    take_cases mins H (λ _ t. Last (handed_on t.events g) b) i (up_from (suc i) n) k q (take_keeps mins H (suc i) n k q g b (omega arith) a) a
    (λ j e h f m. take_keeps mins H (suc i) n j (without_first q i) (e ∷ g) b (omega arith) ((λ x. absurd (omega (arith, first_destination q i e f))), a))

-- Each event taken is the last of its process.
pub take_last : (mins : List ℕ) (H i n k : ℕ) (q g : List Event) → Sorted q → Above g q → All (Last (handed_on (take_eligible mins H (up_from i n) k q).events g)) (take_eligible mins H (up_from i n) k q).events
unfolding take_eligible up_from
take_last mins H i zero k q g s a = tt
take_last mins H i (suc n) k q g s a =
    take_cases mins H (λ _ t. All (Last (handed_on t.events g)) t.events) i (up_from (suc i) n) k q (take_last mins H (suc i) n k q g s a) tt
    (λ j e h f m. (
      take_keeps mins H (suc i) n j (without_first q i) (e ∷ g) e (omega (arith, first_destination q i e f)) ((λ _. omega arith), above_first g q i e f a),
      take_last mins H (suc i) n j (without_first q i) (e ∷ g) (sorted_without q i s) (first_le q i e f s, above_without g q i a),
    ))

-- What is queued: messages that are in time.
abbrev pub Timely : List ℕ → List Event → Message → Type 0
Timely hs g m = (get_or hs m.destination 0 ≤ m.tick) × All (λ (d : Event). d.destination ≡ m.destination → d.tick ≤ m.tick) g

pub queue_floor : (hs : List ℕ) (g : List Event) (k : ℕ) (ms : List Message) (q : List Event) → All (Timely hs g) ms → All (Floor hs) q → All (Floor hs) (queue q k ms)
unfolding queue
queue_floor hs g k [] q f i = i
queue_floor hs g k (m ∷ ms) q f i = queue_floor hs g (suc k) ms (insert (numbered m k) q) f.1 (all_insert (Floor hs) (numbered m k) q f.0.0 i)

above_insert : (e : Event) (q g : List Event) → Last g e → Above g q → Above g (insert e q)
above_insert e q [] l a = tt
above_insert e q (d ∷ g) l a = (all_insert (λ x. Le d x) e q l.0 a.0, above_insert e q g l.1 a.1)

pub queue_above : (hs : List ℕ) (g : List Event) (k : ℕ) (ms : List Message) (q : List Event) → All (Timely hs g) ms → Above g q → Above g (queue q k ms)
unfolding queue
queue_above hs g k [] q f a = a
queue_above hs g k (m ∷ ms) q f a = queue_above hs g (suc k) ms (insert (numbered m k) q) f.1 (above_insert (numbered m k) q g f.0.1 a)
