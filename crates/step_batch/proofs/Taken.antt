-- The pass over the words takes what the rule takes.
use mathlib.Core.Path.{◌≡◌, refl, sym, ap, ◌∙◌}
use mathlib.Core.Bool.{true}
use mathlib.Core.List.{List, [], ◌∷◌}
use Prim.Native.Nat.{ℕ, ◌+◌, ◌≤◌, ◌<◌}
use native.Mathlib.Omega.{arith}
use lib.ListN.{length}
use Rattle.rules.specs.Base.{up_to, rising}
use Rattle.rules.specs.State.{Event}
use Rattle.rules.specs.Pending.{before}
use Rattle.rules.specs.Frontiers.{safe}
use Rattle.rules.specs.Step.{BatchTaken, take_eligible}
use Rattle.rules.proofs.Tests.{by_test}
use Rattle.rules.proofs.Lists.{All, all_map}
use Rattle.rules.proofs.Order.{Pairs, test_before, rising_pairs}
use Rattle.words.specs.Words.{inbounds_of}
use Rattle.words.proofs.Tab.{length_tab}
use Rattle.records.specs.Records.{event_at, events_of, Owners}
use Rattle.records.proofs.Placing.{all_at}
use Rattle.inbound.specs.Inbound.{frontier_in}
use Rattle.inbound.proofs.Recording.{safe_in}
use Rattle.step_batch.specs.ScanRule.{seen_by, scan}
use Rattle.step_batch.specs.Scan.{TakesBatch}
use Rattle.step_batch.specs.declared.BatchScan.{BatchScan}
use Rattle.step_batch.proofs.ScanRule.{Sorted, scan_is, scan_cong}

pairs_sorted : (q : List Event) → Pairs (λ (e f : Event). e.destination ≤ f.destination) q → Sorted q
pairs_sorted [] a = tt
pairs_sorted (e ∷ q) a = (a.0, pairs_sorted q a.1)

-- Events in order stand by destination.
pub stand_by : (q : List Event) → rising before q ≡ true → Sorted q
stand_by q h = pairs_sorted q (rising_pairs before (λ (e f : Event). e.destination ≤ f.destination) (λ e f t. (test_before e f t).destinations) (λ e f g a b. omega arith) q h)

-- The record of n processes, in the words `processes`.
module _ (n : ℕ) (processes : List ℕ) (H room : ℕ) where
  abbrev inbounds : List ℕ
  inbounds = inbounds_of n processes

  pub scanned : (q : List Event) → rising before q ≡ true → All (λ (e : Event). e.destination < n) q → scan (frontier_in processes H) room 0 q ≡ take_eligible inbounds H (up_to n) room q
  unfolding up_to
  scanned q o a =
      let b : All (λ (e : Event). e.destination < 0 + n) q = all_map (λ (e : Event). e.destination < n) (λ (e : Event). e.destination < 0 + n) (λ e h. omega arith) q a in
      scan_cong (frontier_in processes H) (safe inbounds H) n room 0 q (λ p h. sym (safe_in n H p processes h)) a ∙ sym (scan_is inbounds H n 0 room q (stand_by q o) b)

  -- What the pass leaves is what the rule takes and leaves.
  pub took_rule : (count : ℕ) (w b u c : List ℕ) (r : BatchScan) → TakesBatch count (frontier_in processes H) room w b u c r → rising before (events_of count w) ≡ true → All (λ (e : Event). e.destination < n) (events_of count w)
      → record { events = events_of r.taken c; left = events_of r.kept u } ≡ take_eligible inbounds H (up_to n) room (events_of count w)
  took_rule count w b u c r t o a =
      let s : BatchTaken = scan (frontier_in processes H) room 0 (events_of count w) in
      let e : record { events = events_of r.taken c; left = events_of r.kept u } ≡ s = λ i. record { events = t.events i; left = t.left i } in
      e ∙ scanned (events_of count w) o a

-- Where destinations are below n, each event's process has a place in a table.
pub owners : (count n : ℕ) (w : List ℕ) → n ≤ 64 → All (λ (e : Event). e.destination < n) (events_of count w) → Owners count w
unfolding Owners
owners count n w h a i l =
    let d : (event_at w i).destination < n = all_at (λ (e : Event). e.destination < n) (event_at w) 0 count i a (omega arith) (omega arith) in
    omega arith

all_kept : (front : ℕ → ℕ) (room seen : ℕ) (q : List Event) → length (scan front room seen q).events ≡ 0 → (scan front room seen q).left ≡ q
unfolding scan
all_kept front room seen [] h = refl
all_kept front room seen (e ∷ q) h =
    by_test (λ (t : BatchTaken). length t.events ≡ 0 → t.left ≡ (e ∷ q)) (λ _ z. absurd (omega arith)) (λ _ z. ap (λ (x : List Event). e ∷ x) (all_kept front room (seen_by seen e) q z)) h

module _ (count : ℕ) (front : ℕ → ℕ) (room : ℕ) (w b u c : List ℕ) (r : BatchScan) (t : TakesBatch count front room w b u c r) where
  taken_is : r.taken ≡ length (scan front room 0 (events_of count w)).events
  taken_is = sym (length_tab (event_at c) 0 r.taken) ∙ ap length t.events

  -- Where nothing was taken, nothing moved.
  pub took_none : r.taken ≡ 0 → events_of r.kept u ≡ events_of count w
  took_none e = t.left ∙ all_kept front room 0 (events_of count w) (omega (arith, taken_is))
