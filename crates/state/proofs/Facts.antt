-- What a header and its arrays are, where 11 lets their state pass.
use mathlib.Core.Path.{◌≡◌, refl}
use mathlib.Core.Bool.{Bool, true, false, not}
use mathlib.Core.List.{List, []}
use Prim.Native.Nat.{ℕ, zero, suc, ◌^◌, ◌-◌, ◌≤◌, ◌<◌}
use native.Mathlib.Omega.{arith}
use lib.Dec.{leb}
use borrow.Author.Tests.{leb-false, lt-leb}
use Rattle.types.specs.Value.{ticks_of}
use Rattle.words.specs.Words.{tab}
use Rattle.words.proofs.Tab.{length_tab}
use Rattle.records.specs.Records.{edge_at, event_at, events_of}
use Rattle.records.proofs.Placing.{all_at}
use Rattle.rules.specs.Base.{any, non_empty, rising}
use Rattle.rules.specs.State.{Event, stored, max_tick}
use Rattle.rules.specs.Pending.{before}
use Rattle.rules.specs.Foreign.{foreign, horizon_is_max, is_unset, by_process}
use Rattle.rules.proofs.Tests.{not_both, not_false, and_other}
use Rattle.rules.proofs.Lists.{All, all_map, none_any}
use Rattle.rules.proofs.Shape.{Shaped, Joined, Known, shaped}
use Rattle.state.specs.declared.Header.{Header}
use Rattle.state.specs.View.{view, stored_of}

stored_below : (b : Bool) (h k : ℕ) → b ≡ true → horizon_is_max (stored_of b h k) ≡ false → leb max_tick h ≡ false
unfolding horizon_is_max
stored_below true h k e a = a
stored_below false h k e a = not_both e (λ i. false)

stored_true : (b : Bool) (h k : ℕ) → is_unset (stored_of b h k) ≡ false → b ≡ true
unfolding is_unset
stored_true true h k a = λ i. true
stored_true false h k a = not_both (λ i. true) a

pub stored_is : (b : Bool) (h k : ℕ) → b ≡ true → stored_of b h k ≡ stored h k
stored_is b h k e = rw e

-- Whether there are events, by how many there are.
pub some_events : (f : ℕ → Event) (i n : ℕ) → 0 < n → non_empty (tab f i n) ≡ true
unfolding tab non_empty
some_events f i zero l = absurd (omega arith)
some_events f i (suc n) l = refl

pub no_events : (f : ℕ → Event) (i n : ℕ) → n ≤ 0 → tab f i n ≡ []
unfolding tab
no_events f i zero l = refl
no_events f i (suc n) l = absurd (omega arith)

module _ (h : Header) (E P Z B : List ℕ) (f : foreign (view h E P Z B) ≡ false) where
  shape : Shaped (view h E P Z B)
  shape = shaped (view h E P Z B) f

  pub few_processes : h.n ≤ 64
  few_processes = shape.sized.few

  pub few_edges : h.edges ≤ 512
  few_edges = omega (arith, shape.wired.few, length_tab (edge_at E) 0 h.edges)

  pub few_pending : h.pending ≤ 512
  few_pending = omega (arith, shape.queued.few, length_tab (event_at P) 0 h.pending)

  pub few_batch : h.batch ≤ 64
  few_batch = omega (arith, shape.held.few, length_tab (event_at B) 0 h.batch)

  pub sources : (i : ℕ) → i < h.edges → (edge_at E i).source < h.n
  sources i l = let j : Joined h.n (edge_at E i) = all_at (Joined h.n) (edge_at E) 0 h.edges i shape.wired.joined (omega arith) (omega arith) in j.source

  pub edge_destinations : (i : ℕ) → i < h.edges → (edge_at E i).destination < 64
  edge_destinations i l =
      let j : Joined h.n (edge_at E i) = all_at (Joined h.n) (edge_at E) 0 h.edges i shape.wired.joined (omega arith) (omega arith) in
      omega (arith, j.destination, few_processes)

  pub destinations : All (λ (e : Event). e.destination < h.n) (events_of h.pending P)
  destinations = all_map (Known h.n) (λ (e : Event). e.destination < h.n) (λ e k. k.destination) (events_of h.pending P) shape.queued.known

  pub in_order : rising before (events_of h.pending P) ≡ true
  in_order = shape.queued.order

  pub is_stored : h.running ≡ true → h.stored ≡ true
  is_stored r = stored_true h.stored _ _ (and_other h.running _ r shape.runs.stored)

  pub below_top : h.running ≡ true → ticks_of h.horizon < 2 ^ 128 - 1
  below_top r = leb-false max_tick _ (stored_below h.stored _ _ (is_stored r) shape.runs.below)

  pub newest : any (λ e. leb h.next e.sequence) (events_of h.pending P) ≡ false
  newest = none_any (λ (e : Event). leb h.next e.sequence) (events_of h.pending P) (all_map (λ (e : Event). e.sequence < h.next) (λ (e : Event). leb h.next e.sequence ≡ false) (λ e l. lt-leb h.next e.sequence l) (events_of h.pending P) shape.queued.numbers)

  -- A batch has an open run.
  pub batch_runs : 0 < h.batch → h.running ≡ true
  batch_runs l = not_false h.running (and_other (non_empty (events_of h.batch B)) (not h.running) (some_events (event_at B) 0 h.batch l) shape.runs.opened)

  pub batch_owners : (i : ℕ) → i < h.batch → (event_at B i).destination < 64
  batch_owners i l = let j : Known h.n (event_at B i) = all_at (Known h.n) (event_at B) 0 h.batch i shape.held.known (omega arith) (omega arith) in omega (arith, j.destination, few_processes)

  pub batch_order : rising by_process (events_of h.batch B) ≡ true
  batch_order = shape.held.order
