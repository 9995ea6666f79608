-- Conservation, what is in hand, and the counters: kept by every call.
use mathlib.Core.Path.{◌≡◌, refl, sym, ap, ◌∙◌}
use mathlib.Core.Bool.{Bool, true, false}
use mathlib.Core.List.{List, [], ◌∷◌}
use Prim.Native.Nat.{ℕ, zero, suc, ◌+◌, ◌-◌, ◌≤◌, min}
use native.Mathlib.Omega.{arith}
use lib.Dec.{ltb, eqb}
use lib.ListN.{length}
use Rattle.rules.specs.Base.{if◌then◌otherwise◌, Maybe, none, some, up_to}
use Rattle.rules.specs.State.{Event, Message, State, Counters, numbered, max_count}
use Rattle.rules.specs.Answers.{Answer}
use Rattle.rules.specs.Rows.{Out, out}
use Rattle.rules.specs.Pending.{insert, first_of, without_first, queue}
use Rattle.rules.specs.Frontiers.{safe, below, eligible}
use Rattle.rules.specs.Step.{BatchTaken, take_eligible_at, take_eligible, taken_at, count_raised}
use Rattle.rules.specs.HandBack.{Emission, messages}
use Rattle.rules.specs.Calls.{Call}
use Rattle.rules.specs.History
use Rattle.rules.specs.History.{Entry, History, append_call, is_hand_back, is_advanced, is_batch, initials, in_hand, emitted, remote, rounds, null_message_count, worker_count_of, used, begins, adds, commits}
use Rattle.rules.proofs.Tests.{by_test, and_off}
use Rattle.rules.proofs.Counts.{entry_of, Unhandled, unhandled, Turns, no_turn, no_initial, used_same, hand_stays}

-- Lengths

pub length_insert : (e : Event) (q : List Event) → length (insert e q) ≡ suc (length q)
unfolding insert
length_insert e [] = refl
length_insert e (f ∷ fs) = by_test (λ (l : List Event). length l ≡ suc (suc (length fs))) (λ t. refl) (λ t. ap suc (length_insert e fs))

pub length_messages : (xs : List Emission) → length (messages xs) ≡ length xs
length_messages [] = refl
length_messages (x ∷ xs) = ap suc (length_messages xs)

pub length_queue : (q : List Event) (k : ℕ) (ms : List Message) → length (queue q k ms) ≡ length q + length ms
unfolding queue
length_queue q k [] = omega arith
length_queue q k (m ∷ ms) = omega (arith, length_queue (insert (numbered m k) q) (suc k) ms, length_insert (numbered m k) q)

-- A first event that is there leaves one less.
length_without : (q : List Event) (p : ℕ) (e : Event) → first_of q p ≡ some e → suc (length (without_first q p)) ≡ length q
unfolding first_of without_first if◌then◌otherwise◌
length_without [] p e h = let z : ◌≡◌ {A = ℕ} 0 1 = cc in omega arith
length_without (f ∷ fs) p e h = go (eqb f.destination p) (length_without fs p e) h
  where
    go : (t : Bool) → (first_of fs p ≡ some e → suc (length (without_first fs p)) ≡ length fs) → (if t then some f otherwise first_of fs p) ≡ some e → suc (length (if t then fs otherwise f ∷ without_first fs p)) ≡ suc (length fs)
    go true ih h = refl
    go false ih h = ap suc (ih h)

-- An eligible event is the first.
pub eligible_first : (k : ℕ) (m : Maybe Event) (e : Event) → below k m ≡ some e → m ≡ some e
unfolding below if◌then◌otherwise◌
eligible_first k none e h = let z : ◌≡◌ {A = ℕ} 0 1 = cc in h
eligible_first k (some f) e h = go (ltb f.tick k) h
  where
    go : (t : Bool) → (if t then some f otherwise none) ≡ some e → some f ≡ some e
    go true h = h
    go false h = cc

Split : List Event → BatchTaken → Type 0
Split q t = length t.left + length t.events ≡ length q

take_splits : (mins : List ℕ) (H : ℕ) (ps : List ℕ) (room : ℕ) (q : List Event) → Split q (take_eligible mins H ps room q)
unfolding take_eligible Split take_eligible_at eligible
take_splits mins H [] room q = omega arith
take_splits mins H (p ∷ ps) room q = go (below (safe mins H p) (first_of q p)) refl (take_splits mins H ps) room
  where
    go : (m : Maybe Event) → below (safe mins H p) (first_of q p) ≡ m → ((k : ℕ) (r : List Event) → Split r (take_eligible mins H ps k r)) → (k : ℕ) → Split q (take_eligible_at m p q k (take_eligible mins H ps))
    go none h ih k = ih k q
    go (some e) h ih zero = omega arith
    go (some e) h ih (suc k) = omega (arith, ih k (without_first q p), length_without q p e (eligible_first _ _ e h))

pub take_shorter : (mins : List ℕ) (H : ℕ) (ps : List ℕ) (room : ℕ) (q : List Event) → length (take_eligible mins H ps room q).left ≤ length q
unfolding Split
take_shorter mins H ps room q = omega (arith, take_splits mins H ps room q)

pub taken_splits : (s : State) (h b : ℕ) → length (taken_at s h b).left + length (taken_at s h b).events ≡ length s.pending
unfolding Split
taken_splits s h b = take_splits s.inbound (suc h) (up_to s.n) (b - s.used) s.pending

-- The invariant

pub record Kept (es : List Entry) (s : State) : Type 0 where
  pub hand : in_hand es ≡ s.batch
  pub lost : s.poisoned ≡ true → s.batch ≡ []
  pub sum : s.poisoned ≡ false → initials es + emitted es ≡ History.handled es + length s.pending + length s.batch
  pub used : s.used ≡ min max_count (used es)

-- The counters are the counts, or 2^64 - 1 where one is larger.
pub record Counted (es : List Entry) (c : Counters) : Type 0 where
  pub handled : c.handled ≡ min max_count (History.handled es)
  pub emitted : c.emitted ≡ min max_count (emitted es)
  pub remote : c.remote ≡ min max_count (remote es)
  pub rounds : c.rounds ≡ min max_count (rounds es)
  pub null_messages : c.null_messages ≡ min max_count (null_message_count es)
  pub worker_count : c.worker_count ≡ worker_count_of es

pub record Tallied (y : History) : Type 0 where
  pub kept : Kept y.entries y.now
  pub counted : Counted y.entries y.counters

unfoldable pub Tells : History → Call → Out → Type 0
Tells y k o = Tallied (append_call y k o)

pub counted_same : (es fs : List Entry) (c : Counters) → Unhandled es fs → Turns 0 0 es fs → Counted es c → Counted fs c
counted_same es fs c u t i = record { handled = omega (arith, u.handled, i.handled); emitted = omega (arith, u.emitted, i.emitted); remote = omega (arith, u.remote, i.remote); rounds = omega (arith, t.rounds, i.rounds); null_messages = omega (arith, t.null_messages, i.null_messages); worker_count = i.worker_count ∙ sym u.worker_count }

-- A call that counts nothing, and leaves a state with the same numbers of events.
pub record Calm (s t : State) : Type 0 where
  pub lost : t.poisoned ≡ true → t.batch ≡ []
  pub healthy : t.poisoned ≡ false → s.poisoned ≡ false
  pub events : t.poisoned ≡ false → length t.pending + length t.batch ≡ length s.pending + length s.batch
  pub used : t.used ≡ s.used

pub record Quiet (e : Entry) : Type 0 where
  pub no_run : begins e ≡ false
  pub no_event : adds e ≡ false
  pub no_commit : commits e ≡ false
  pub no_advance : is_advanced e.answer ≡ false

pub calm : (y : History) (k : Call) (a : Answer) (t : State) → let e = entry_of k a (count_raised y.now.edges t.edges) in
    Quiet e → in_hand (e ∷ y.entries) ≡ t.batch → Calm y.now t → Tallied y → Tells y k (out a t y.counters)
unfolding Tells
calm y k a t q h c i =
    let e = entry_of k a (count_raised y.now.edges t.edges) in
    let u = unhandled e y.entries q.no_commit in
    record {
      kept = record {
        hand = h;
        lost = c.lost;
        sum = λ p. omega (arith, i.kept.sum (c.healthy p), c.events p, u.handled, u.emitted, no_initial e y.entries q.no_event);
        used = c.used ∙ i.kept.used ∙ ap (min max_count) (sym (used_same e y.entries q.no_run q.no_commit));
      };
      counted = counted_same y.entries (e ∷ y.entries) y.counters u (no_turn e y.entries q.no_commit q.no_advance) i.counted;
    }

-- The state as given.
pub unmoved : (y : History) → Tallied y → Calm y.now y.now
unmoved y i = record { lost = i.kept.lost; healthy = λ p. p; events = λ _. refl; used = refl }

-- A call other than a hand back that counts nothing and leaves the batch.
pub answered_refusal : (y : History) (k : Call) (a : Answer) (t : State) → Quiet (entry_of k a (count_raised y.now.edges t.edges)) → is_hand_back k ≡ false → is_batch a ≡ false
    → t.batch ≡ y.now.batch → Calm y.now t → Tallied y → Tells y k (out a t y.counters)
answered_refusal y k a t q h b z c i = calm y k a t q (hand_stays (entry_of k a (count_raised y.now.edges t.edges)) y.entries b (and_off (is_hand_back k) _ h) ∙ i.kept.hand ∙ sym z) c i
