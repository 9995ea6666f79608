-- What taking a batch keeps, and what the batch is.
use mathlib.Core.Path.{◌≡◌, refl, ap}
use mathlib.Core.Bool.{Bool, true, false}
use mathlib.Core.List.{List, [], ◌∷◌}
use Prim.Native.Nat.{ℕ, zero, suc, ◌≤◌, ◌<◌}
use native.Mathlib.Omega.{arith}
use lib.Dec.{ltb}
use lib.ListN.{length}
use borrow.Author.Tests.{ltb-true}
use Rattle.rules.specs.Base.{if◌then◌otherwise◌, Maybe, none, some, up_from}
use Rattle.rules.specs.State.{Event}
use Rattle.rules.specs.Pending.{first_of, without_first}
use Rattle.rules.specs.Frontiers.{safe, below, eligible}
use Rattle.rules.specs.Step.{BatchTaken, take_eligible_at, take_eligible}
use Rattle.rules.proofs.Lists.{All, all_map}
use Rattle.rules.proofs.Order.{Pairs, Sorted, all_without, all_first, sorted_without, first_destination}
use Rattle.rules.proofs.Tally.{eligible_first}

-- An eligible event is below its frontier.
pub below_safe : (k : ℕ) (m : Maybe Event) (e : Event) → below k m ≡ some e → e.tick < k
unfolding below if◌then◌otherwise◌
below_safe k none e h = let z : ◌≡◌ {A = ℕ} 0 1 = cc in absurd (omega arith)
below_safe k (some f) e h = go (ltb f.tick k) refl h
  where
    go : (t : Bool) → ltb f.tick k ≡ t → (if t then some f otherwise none) ≡ some e → e.tick < k
    go true d h = let z : f ≡ e = cc in rw (← z) (ltb-true f.tick k d)
    go false d h = let z : ◌≡◌ {A = ℕ} 0 1 = cc in absurd (omega arith)

-- What taking does at one process, for a statement about what is taken and left: nobody, no room, or its first event.
module _ (mins : List ℕ) (H : ℕ) (Q : List Event → BatchTaken → Type 0) where
  pub take_cases : (p : ℕ) (ps : List ℕ) (k : ℕ) (q : List Event)
      → (Q q (take_eligible mins H ps k q))
      → (Q q (record { events = []; left = q }))
      → ((j : ℕ) (e : Event) → k ≡ suc j → first_of q p ≡ some e → e.tick < safe mins H p → Q q (record { events = e ∷ (take_eligible mins H ps j (without_first q p)).events; left = (take_eligible mins H ps j (without_first q p)).left }))
      → Q q (take_eligible mins H (p ∷ ps) k q)
  unfolding take_eligible take_eligible_at eligible
  take_cases p ps k q a b c = go (below (safe mins H p) (first_of q p)) refl k refl
    where
      go : (m : Maybe Event) → below (safe mins H p) (first_of q p) ≡ m → (j : ℕ) → k ≡ j → Q q (take_eligible_at m p q j (take_eligible mins H ps))
      go none e j h = rw (← h) a
      go (some f) e zero h = b
      go (some f) e (suc j) h = c j f h (eligible_first _ _ f e) (below_safe _ _ f e)

-- What holds of all pending events holds of those taken and of those left.
pub record Both (P : Event → Type 0) (t : BatchTaken) : Type 0 where
  pub events : All P t.events
  pub left : All P t.left

pub take_all : (P : Event → Type 0) (mins : List ℕ) (H : ℕ) (ps : List ℕ) (k : ℕ) (q : List Event) → All P q → Both P (take_eligible mins H ps k q)
unfolding take_eligible
take_all P mins H [] k q i = record { events = tt; left = i }
take_all P mins H (p ∷ ps) k q i =
    take_cases mins H (λ _ t. Both P t) p ps k q (take_all P mins H ps k q i) (record { events = tt; left = i })
    (λ j e h f l. let r = take_all P mins H ps j (without_first q p) (all_without P q p i) in record { events = (all_first P q p e f i, r.events); left = r.left })

-- What is left is still in order.
pub take_sorted : (mins : List ℕ) (H : ℕ) (ps : List ℕ) (k : ℕ) (q : List Event) → Sorted q → Sorted (take_eligible mins H ps k q).left
unfolding take_eligible
take_sorted mins H [] k q i = i
take_sorted mins H (p ∷ ps) k q i =
    take_cases mins H (λ _ t. Sorted t.left) p ps k q (take_sorted mins H ps k q i) i (λ j e h f l. take_sorted mins H ps j (without_first q p) (sorted_without q p i))

-- At most one event of each process.
pub take_few : (mins : List ℕ) (H : ℕ) (ps : List ℕ) (k : ℕ) (q : List Event) → length (take_eligible mins H ps k q).events ≤ length ps
unfolding take_eligible
take_few mins H [] k q = omega arith
take_few mins H (p ∷ ps) k q =
    take_cases mins H (λ _ t. length t.events ≤ suc (length ps)) p ps k q (omega (arith, take_few mins H ps k q)) (omega arith) (λ j e h f l. omega (arith, take_few mins H ps j (without_first q p)))

-- Each event taken is below the frontier of its process.
pub take_safe : (mins : List ℕ) (H : ℕ) (ps : List ℕ) (k : ℕ) (q : List Event) → All (λ (b : Event). b.tick < safe mins H b.destination) (take_eligible mins H ps k q).events
unfolding take_eligible
take_safe mins H [] k q = tt
take_safe mins H (p ∷ ps) k q =
    take_cases mins H (λ _ t. All (λ (b : Event). b.tick < safe mins H b.destination) t.events) p ps k q (take_safe mins H ps k q) tt
    (λ j e h f l. (rw (first_destination q p e f) l, take_safe mins H ps j (without_first q p)))

-- The events rise by process, from the first process asked on.
abbrev pub Ascend : Event → Event → Type 0
Ascend e f = e.destination < f.destination

pub record Rises (i : ℕ) (t : BatchTaken) : Type 0 where
  pub from : All (λ (e : Event). i ≤ e.destination) t.events
  pub rise : Pairs Ascend t.events

rises_later : (i : ℕ) (t : BatchTaken) → Rises (suc i) t → Rises i t
rises_later i t r = record { from = all_map (λ (e : Event). suc i ≤ e.destination) (λ (e : Event). i ≤ e.destination) (λ e x. omega arith) t.events r.from; rise = r.rise }

pub take_rises : (mins : List ℕ) (H i n k : ℕ) (q : List Event) → Rises i (take_eligible mins H (up_from i n) k q)
unfolding take_eligible up_from
take_rises mins H i zero k q = record { from = tt; rise = tt }
take_rises mins H i (suc n) k q =
    take_cases mins H (λ _ t. Rises i t) i (up_from (suc i) n) k q (rises_later i _ (take_rises mins H (suc i) n k q)) (record { from = tt; rise = tt })
    (λ j e h f l.
    let r = take_rises mins H (suc i) n j (without_first q i) in
    let d : e.destination ≡ i = first_destination q i e f in
    record {
      from = (omega arith, (rises_later i _ r).from);
      rise = (all_map (λ (x : Event). suc i ≤ x.destination) (Ascend e) (λ x y. omega arith) (take_eligible mins H (up_from (suc i) n) j (without_first q i)).events r.from, r.rise);
    })

pub up_from_length : (i n : ℕ) → length (up_from i n) ≡ n
unfolding up_from
up_from_length i zero = refl
up_from_length i (suc n) = ap suc (up_from_length (suc i) n)
