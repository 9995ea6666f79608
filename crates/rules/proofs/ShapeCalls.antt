-- Every call leaves a state that 11 lets pass, if it was given one.
use mathlib.Core.Path.{◌≡◌, refl, ap, ◌∙◌}
use mathlib.Core.Bool.{Bool, true, false, not, ◌&&◌, ◌||◌, and-false}
use mathlib.Core.List.{List, [], ◌∷◌}
use Prim.Native.Nat.{ℕ, suc, ◌+◌, ◌-◌, ◌≤◌, ◌<◌}
use native.Mathlib.Omega.{arith}
use lib.Dec.{eqb}
use lib.ListN.{length}
use borrow.Author.Tests.{lt-leb, lt-ltb, ltb-false}
use Rattle.rules.specs.Base.{up_to, up_from, any, non_empty, rising}
use Rattle.rules.specs.State.{Event, Message, Edge, Stored, stored, State, Counters, numbered, with_pending, with_run, with_batch, closed, poison, max_tick}
use Rattle.rules.specs.Rows.{Out, Row}
use Rattle.rules.specs.Pending.{joins, insert, queue}
use Rattle.rules.specs.Frontiers.{least_inbound, recorded}
use Rattle.rules.specs.Foreign.{duplicate_or_self_edges, horizon_is_max, is_unset, by_process, foreign}
use Rattle.rules.specs.Refresh.{raised, refreshed}
use Rattle.rules.specs.Step.{new_edges, take_eligible, taken_at, raised_edges, new_horizons, advanced}
use Rattle.rules.specs.HandBack.{Emission, malformed, process_rows, messages, handled}
use Rattle.rules.specs.Calls.{Call, AddInitial, Begin, Step, HandBack, rule}
use Rattle.rules.proofs.Tests.{by_bool, and_off, and_other, not_false, not_both}
use Rattle.rules.proofs.Lists.{All, all_map, all_mapped, all_front, all_rest, empty_nil}
use Rattle.rules.proofs.Table.{Passed}
use Rattle.rules.proofs.Cases.{InitialPassed, by_initial, BeginPassed, by_begin, Steps, by_step, Commits, by_back}
use Rattle.rules.proofs.Shape.{Short, Known, Joined, Sized, Wired, Queued, Held, Runs, Shaped, shaped}
use Rattle.rules.proofs.Recorded.{record_at, recorded_anew}
use Rattle.rules.proofs.Tally.{length_insert, length_messages, take_shorter}
use Rattle.rules.proofs.Order.{pairs_rising, sorted, sorted_rises, all_insert, Apart, sorted_insert}
use Rattle.rules.proofs.Checks.{each_emission}
use Rattle.rules.proofs.Fronts.{length_edges, looks_raised}
use Rattle.rules.proofs.Take.{take_all, take_sorted, take_few, Ascend, take_rises, up_from_length}

-- Pending events

-- A message that may be queued.
pub record Fit (n : ℕ) (m : Message) : Type 0 where
  pub source : m.source < n
  pub destination : m.destination < n
  pub payload : length m.payload ≤ 16

queued_insert : (n next : ℕ) (q : List Event) (m : Message) → Fit n m → length q < 512 → Queued n next q → Queued n (suc next) (insert (numbered m next) q)
queued_insert n next q m f l i =
    let e = numbered m next in
    record {
      few = omega (arith, length_insert e q);
      short = all_insert Short e q (record { payload = f.payload }) i.short;
      known = all_insert (Known n) e q (record { source = f.source; destination = f.destination }) i.known;
      order = sorted_rises (insert e q) (sorted_insert e q (all_map (λ (x : Event). x.sequence < next) (Apart e) (λ x y z. omega arith) q i.numbers) (sorted q i.order));
      numbers = all_insert (λ (x : Event). x.sequence < suc next) e q (omega arith) (all_map (λ (x : Event). x.sequence < next) (λ (x : Event). x.sequence < suc next) (λ x y. omega arith) q i.numbers);
    }

pub queued_all : (n next : ℕ) (q : List Event) (ms : List Message) → All (Fit n) ms → length q + length ms ≤ 512 → Queued n next q → Queued n (next + length ms) (queue q next ms)
unfolding queue
queued_all n next q [] f l i = let e : next + 0 ≡ next = omega arith in rw e i
queued_all n next q (m ∷ ms) f l i =
    let e : next + suc (length ms) ≡ suc next + length ms = omega arith in
    rw e (queued_all n (suc next) (insert (numbered m next) q) ms f.1 (omega (arith, length_insert (numbered m next) q)) (queued_insert n next q m f.0 (omega arith) i))

-- Edges and horizons that rise

length_raised : (to : ℕ → ℕ) (i : ℕ) (hs : List ℕ) → length (raised to i hs) ≡ length hs
unfolding raised
length_raised to i [] = refl
length_raised to i (h ∷ hs) = ap suc (length_raised to (suc i) hs)

joined_raised : (s : State) (H n : ℕ) (es : List Edge) → All (Joined n) es → All (Joined n) (raised_edges s H es)
unfolding raised_edges
joined_raised s H n [] i = tt
joined_raised s H n (e ∷ es) i = (record { source = i.0.source; destination = i.0.destination }, joined_raised s H n es i.1)

-- Routes do not depend on bounds.
pub joins_raised : (s : State) (H a b : ℕ) (es : List Edge) → any (joins a b) (raised_edges s H es) ≡ any (joins a b) es
unfolding raised_edges any
joins_raised s H a b [] = refl
joins_raised s H a b (e ∷ es) = ap (λ (t : Bool). (eqb e.source a && eqb e.destination b) || t) (joins_raised s H a b es)

once_raised : (s : State) (H : ℕ) (es : List Edge) → duplicate_or_self_edges (raised_edges s H es) ≡ duplicate_or_self_edges es
unfolding raised_edges duplicate_or_self_edges
once_raised s H [] = refl
once_raised s H (e ∷ es) = rw (joins_raised s H e.source e.destination es, once_raised s H es)

wired_raised : (s : State) (H n : ℕ) (es : List Edge) → Wired n es → Wired n (raised_edges s H es)
wired_raised s H n es i = record { few = omega (arith, length_edges s H es, i.few); joined = joined_raised s H n es i.joined; once = once_raised s H es ∙ i.once; ahead = looks_raised s H 1 es i.ahead }

sized_raised : (n L : ℕ) (hs : List ℕ) (to : ℕ → ℕ) → Sized n L hs → Sized n L (raised to 0 hs)
sized_raised n L hs to i = record { some = i.some; few = i.few; ahead = i.ahead; wide = length_raised to 0 hs ∙ i.wide }

-- Batches

held_none : (n : ℕ) → Held n []
unfolding rising
held_none n = record { few = omega arith; short = tt; known = tt; order = refl }

held_taken : (m : List ℕ) (H n k : ℕ) (q : List Event) → n ≤ 64 → All Short q → All (Known n) q → Held n (take_eligible m H (up_from 0 n) k q).events
held_taken m H n k q f a b = record {
  few = omega (arith, take_few m H (up_from 0 n) k q, up_from_length 0 n);
  short = (take_all Short m H (up_from 0 n) k q a).events;
  known = (take_all (Known n) m H (up_from 0 n) k q b).events;
  order = pairs_rising by_process Ascend (λ x y h. lt-ltb x.destination y.destination h) _ (take_rises m H 0 n k q).rise;
}

queued_taken : (m : List ℕ) (H n next k : ℕ) (ps : List ℕ) (q : List Event) → Queued n next q → Queued n next (take_eligible m H ps k q).left
queued_taken m H n next k ps q i = record {
  few = omega (arith, take_shorter m H ps k q, i.few);
  short = (take_all Short m H ps k q i.short).left;
  known = (take_all (Known n) m H ps k q i.known).left;
  order = sorted_rises _ (take_sorted m H ps k q (sorted q i.order));
  numbers = (take_all (λ (e : Event). e.sequence < next) m H ps k q i.numbers).left;
}

-- Runs

runs_empty : (l : Stored) (running : Bool) → horizon_is_max l ≡ false → running && is_unset l ≡ false → Runs l [] running
unfolding non_empty
runs_empty l running a b = record { below = a; stored = b; opened = refl }

runs_closed : (l : Stored) (bs : List Event) (running : Bool) → bs ≡ [] → Runs l bs running → Runs l bs false
unfolding non_empty
runs_closed l bs running z i = record { below = i.below; stored = refl; opened = and_off (non_empty bs) true (ap non_empty z) }

runs_begun : (h b : ℕ) (bs : List Event) → bs ≡ [] → h < max_tick → Runs (stored h b) bs true
unfolding horizon_is_max is_unset non_empty
runs_begun h b bs z l = record { below = lt-leb max_tick h l; stored = refl; opened = and_off (non_empty bs) false (ap non_empty z) }

runs_batch : (l : Stored) (bs cs : List Event) (running : Bool) → running ≡ true → Runs l bs running → Runs l cs running
runs_batch l bs cs running r i = record { below = i.below; stored = i.stored; opened = rw r (and-false (non_empty cs)) }

-- The calls

unfoldable pub Shapes : Out → Type 0
Shapes o = Shaped o.after

idle_empty : (s : State) → Shaped s → s.running ≡ false → s.batch ≡ []
idle_empty s w r = empty_nil s.batch (by_bool (non_empty s.batch) (λ t. not_both (ap not r) (and_other (non_empty s.batch) (not s.running) t w.runs.opened)) (λ t. t))

pub batch_runs : (s : State) → Shaped s → non_empty s.batch ≡ true → s.running ≡ true
batch_runs s w b = not_false s.running (and_other (non_empty s.batch) (not s.running) b w.runs.opened)

-- What 26 and 28 to 33 let pass may be queued.
pub fits : (s : State) (mask : ℕ) (xs : List Emission) → Shaped s → malformed s.batch mask xs ≡ false → Passed (process_rows s mask xs s.batch) → All (Fit s.n) (messages xs)
fits s mask xs w m p =
    all_mapped (Fit s.n) (λ (x : Emission). x.message) xs
    (each_emission (λ x. Fit s.n x.message) (Known s.n) s mask xs m p w.held.known
    (λ b x k e r t l. record { source = let z : x.message.source ≡ b.destination = r.own ∙ e in omega (arith, k.destination); destination = r.known; payload = l }))

module _ (s : State) (c : Counters) (w : Shaped s) where
  shape_initial : (m : Message) → InitialPassed s m → Shaped (with_pending s (insert (numbered m s.next) s.pending) (suc s.next))
  shape_initial m i = record {
    sized = w.sized;
    wired = w.wired;
    queued = queued_insert s.n s.next s.pending m (record { source = i.source; destination = i.destination; payload = i.payload }) i.room w.queued;
    held = w.held;
    runs = w.runs;
    recorded = w.recorded;
  }

  shape_begin : (h b : ℕ) → BeginPassed s h → Shaped (with_run s h b)
  shape_begin h b i = record { sized = w.sized; wired = w.wired; queued = w.queued; held = w.held; runs = runs_begun h b s.batch (idle_empty s w i.idle) i.below; recorded = w.recorded }

  shape_batch : (h b : ℕ) → Steps s h b → Shaped (with_batch s (taken_at s h b).events (taken_at s h b).left)
  unfolding up_to
  shape_batch h b i = record {
    sized = w.sized;
    wired = w.wired;
    queued = queued_taken s.inbound (suc h) s.n s.next (b - s.used) (up_to s.n) s.pending w.queued;
    held = held_taken s.inbound (suc h) s.n (b - s.used) s.pending w.sized.few w.queued.short w.queued.known;
    runs = runs_batch s.stored s.batch (taken_at s h b).events s.running i.open_run w.runs;
    recorded = w.recorded;
  }

  shape_closed : s.batch ≡ [] → Shaped (closed s)
  shape_closed z = record { sized = w.sized; wired = w.wired; queued = w.queued; held = w.held; runs = runs_closed s.stored s.batch s.running z w.runs; recorded = w.recorded }

  shape_poison : Shaped (poison s)
  shape_poison = record { sized = w.sized; wired = w.wired; queued = w.queued; held = held_none s.n; runs = runs_empty s.stored s.running w.runs.below w.runs.stored; recorded = w.recorded }

  shape_advanced : (h : ℕ) → Shaped (advanced s h)
  unfolding refreshed
  shape_advanced h = record {
    sized = sized_raised s.n s.lookahead (new_horizons s (suc h)) _ (sized_raised s.n s.lookahead s.horizons _ w.sized);
    wired = wired_raised s (suc h) s.n s.edges w.wired;
    queued = w.queued;
    held = w.held;
    runs = w.runs;
    recorded = recorded_anew s.n (new_edges s (suc h));
  }

  few_enough : (mask : ℕ) (xs : List Emission) (h b : ℕ) → Commits s mask xs h b → length s.pending + length xs ≤ 512
  few_enough mask xs h b i = let z = all_rest (λ (r : Row). r.test ≡ false) (process_rows s mask xs s.batch) _ i.passed in ltb-false 512 (length s.pending + length xs) z.1.0

  pub shape_handled : (mask : ℕ) (xs : List Emission) (h b : ℕ) → Commits s mask xs h b → Shaped (handled s xs)
  shape_handled mask xs h b i = record {
    sized = w.sized;
    wired = w.wired;
    queued = rw (length_messages xs) at (queued_all s.n s.next s.pending (messages xs) (fits s mask xs w i.reply.formed (all_front (λ (r : Row). r.test ≡ false) (process_rows s mask xs s.batch) _ i.passed)) (omega (arith, few_enough mask xs h b i, length_messages xs)) w.queued);
    held = held_none s.n;
    runs = runs_empty s.stored s.running w.runs.below w.runs.stored;
    recorded = w.recorded;
  }

shape_refreshed : (s : State) (h : ℕ) → Shaped s → Shaped (refreshed s h s.edges s.inbound s.horizons)
unfolding refreshed
shape_refreshed s h w = record { sized = sized_raised s.n s.lookahead s.horizons _ w.sized; wired = w.wired; queued = w.queued; held = w.held; runs = w.runs; recorded = w.recorded }

pub shape_kept : (s : State) (c : Counters) (k : Call) → Shaped s → Shapes (rule s c k)
unfolding rule Shapes
shape_kept s c (AddInitial m) w = by_initial s c m (λ o. Shapes o) (record { foreign = λ _. w; refused = λ _ _. w; accept = λ i. shape_initial s c w m i })
shape_kept s c (Begin h b) w = by_begin s c h b (λ o. Shapes o) (record { foreign = λ _. w; refused = λ _ _. w; accept = λ i. shape_begin s c w h b i })
shape_kept s c Step w = by_step s c (λ o. Shapes o) (record {
  foreign = λ _. w;
  refused = λ _ _. w;
  batch = λ h b i _. shape_batch s c w h b i;
  spends = λ h b i. shape_closed s c w i.empty;
  rise = λ h b i _. shape_advanced s c w h;
  finish = λ h b i _ _. shape_closed (advanced s h) c (shape_advanced s c w h) (unfold refreshed in i.steps.empty);
  last_branch = λ h b i _ _. shape_poison (advanced s h) c (shape_advanced s c w h);
})
shape_kept s c (HandBack mask xs) w = by_back s c mask xs (λ o. Shapes o) (record {
  foreign = λ _. w;
  poisoned = λ _. w;
  empty = λ _. w;
  malformed = w;
  lost = λ _ _ _. shape_poison s c w;
  no_horizon = λ _ _. w;
  spends = λ h b i. shape_closed (handled s xs) c (shape_handled s c w mask xs h b i) refl;
  commits = λ h b i. shape_refreshed (handled s xs) h (shape_handled s c w mask xs h b i);
})

-- A.2: the record is "right after every call not refused with 11".
pub record_kept : (s : State) (c : Counters) (k : Call) → foreign s ≡ false → (p : ℕ) → p < (rule s c k).after.n → recorded (rule s c k).after.inbound p ≡ least_inbound (rule s c k).after.edges p
unfolding Shapes
record_kept s c k f p l = record_at _ _ _ (shape_kept s c k (shaped s f)).recorded p l
