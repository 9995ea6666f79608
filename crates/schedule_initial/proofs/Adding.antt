-- What each return of add initial gives.
use Rattle.std.specs.Prelude.{Ok, Err}
use mathlib.Core.Path.{◌≡◌, sym, ap, ◌∙◌}
use mathlib.Core.Bool.{Bool, true, false}
use mathlib.Core.List.{List}
use Prim.Native.Nat.{ℕ, suc, ◌+◌, ◌≤◌, ◌<◌}
use native.Mathlib.Omega.{arith}
use lib.Dec.{leb, ltb}
use lib.ListN.{length}
use borrow.Author.Tests.{leb-true, leb-false, lt-ltb, le-ltb, le-leb, lt-leb}
use Rattle.types.specs.Value.{lp_id_of}
use Rattle.words.proofs.Tab.{length_tab}
use Rattle.records.specs.Records.{event_at, edges_of, events_of}
use Rattle.records.specs.Queue.{CanInsert}
use Rattle.records.proofs.Stored.{length_payload}
use Rattle.rules.specs.Base.{if◌then◌otherwise◌}
use Rattle.rules.specs.State as R
use Rattle.rules.specs.State.{State, Counters, numbered, with_pending, max_count, max_pending, max_payload}
use Rattle.rules.specs.Answers as A
use Rattle.rules.specs.Rows.{unless, out, refuse}
use Rattle.rules.specs.Pending.{insert, route}
use Rattle.rules.specs.Foreign.{foreign}
use Rattle.rules.specs.Initial.{add_initial}
use Rattle.rules.proofs.Tests.{by_bool}
use Rattle.state.specs.declared.Header.{Header}
use Rattle.state.specs.declared.Message.{Message}
use Rattle.state.specs.declared.Answer.TheVariants as D
use Rattle.state.specs.declared.Refusal.TheVariants as P
use Rattle.state.specs.View.{view, message_of}
use Rattle.state.proofs.Moves.{accepted_moves}
use Rattle.schedule_initial.specs.AddsInitial.{record_of, CanEnqueue, InitialAllowed, HasRoom, RowsPassed, QueueRefusal, InitialRefusal, Enqueues, AddsInitial}

-- The rows, each with those before it passed.
module _ (s : State) (c : Counters) (m : R.Message) where
  module _ (f : foreign s ≡ false) where
    row_12 : s.poisoned ≡ true → add_initial s c m ≡ refuse s c A.Poisoned
    unfolding add_initial unless if◌then◌otherwise◌
    row_12 p = rw (f, p)

    module _ (p : s.poisoned ≡ false) where
      row-13 : s.initial ≡ false → add_initial s c m ≡ refuse s c A.InitialEventsAlreadyClosed
      unfolding add_initial unless if◌then◌otherwise◌
      row-13 o = rw (f, p, o)

      module _ (o : s.initial ≡ true) where
        row-14 : leb s.n m.source ≡ true → add_initial s c m ≡ refuse s c (A.UnknownInitialSource m.source)
        unfolding add_initial unless if◌then◌otherwise◌
        row-14 a = rw (f, p, o, a)

        module _ (a : leb s.n m.source ≡ false) where
          row-15 : leb s.n m.destination ≡ true → add_initial s c m ≡ refuse s c (A.UnknownInitialDestination m.destination)
          unfolding add_initial unless if◌then◌otherwise◌
          row-15 b = rw (f, p, o, a, b)

          row-16 : leb s.n m.destination ≡ false → route s.edges m.source m.destination ≡ false → add_initial s c m ≡ refuse s c (A.InitialRouteMissing m.source m.destination)
          unfolding add_initial unless if◌then◌otherwise◌
          row-16 b r = rw (f, p, o, a, b, r)

  module _ (i : InitialAllowed s m) where
    row_17 : ltb max_payload (length m.payload) ≡ true → add_initial s c m ≡ refuse s c (A.PayloadTooLong (length m.payload))
    unfolding add_initial unless if◌then◌otherwise◌
    row_17 l = rw (i.passes, i.healthy, i.opened, i.source, i.destination, i.routed, l)

    module _ (l : ltb max_payload (length m.payload) ≡ false) where
      row_18 : leb max_pending (length s.pending) ≡ true → add_initial s c m ≡ refuse s c A.QueueFull
      unfolding add_initial unless if◌then◌otherwise◌
      row_18 q = rw (i.passes, i.healthy, i.opened, i.source, i.destination, i.routed, l, q)

      module _ (q : leb max_pending (length s.pending) ≡ false) where
        row_19 : ltb max_count (s.next + 1) ≡ true → add_initial s c m ≡ refuse s c A.EventSequenceOverflow
        unfolding add_initial unless if◌then◌otherwise◌
        row_19 k = rw (i.passes, i.healthy, i.opened, i.source, i.destination, i.routed, l, q, k)

        accepted : ltb max_count (s.next + 1) ≡ false → add_initial s c m ≡ out A.Accepted (with_pending s (insert (numbered m s.next) s.pending) (suc s.next)) c
        unfolding add_initial unless if◌then◌otherwise◌
        accepted k = rw (i.passes, i.healthy, i.opened, i.source, i.destination, i.routed, l, q, k)

pub ready : (h : Header) (Q : List ℕ) (m : Message) → CanEnqueue h Q → CanInsert h.pending Q (record_of m h.next)
unfolding record_of
ready h Q m i = record { ordered = i.order; newest = i.newest }

pub record_is : (m : Message) (k a b : ℕ) → a ≡ lp_id_of m.destination → b ≡ lp_id_of m.source → record { destination = a; hi = m.tick.hi; lo = m.tick.lo; source = b; sequence = k; len = m.len; payload_hi = m.payload_hi; payload_lo = m.payload_lo } ≡ record_of m k
unfolding record_of
record_is m k a b e f = λ i. record { destination = e i; hi = m.tick.hi; lo = m.tick.lo; source = f i; sequence = k; len = m.len; payload_hi = m.payload_hi; payload_lo = m.payload_lo }

-- Row 19 as the program tests it.
one_over : (m k : ℕ) → leb m k ≡ ltb m (k + 1)
one_over m k = by_bool (leb m k) (λ y. y ∙ sym (lt-ltb m (k + 1) (omega (arith, leb-true m k y)))) (λ y. y ∙ sym (le-ltb m (k + 1) (omega (arith, leb-false m k y))))

-- Rows 17 to 19 of the header, from the program's tests.
module _ (h : Header) (m : Message) where
  payload : length (message_of m).payload ≡ m.len
  payload = length_payload m.len m.payload_hi m.payload_lo

  short : m.len ≤ 16 → ltb max_payload (length (message_of m).payload) ≡ false
  short l = le-ltb 16 (length (message_of m).payload) (omega (arith, payload))

  pub queue_long : 16 < m.len → QueueRefusal h m (Err (P.PayloadTooLong m.len))
  queue_long l = λ E Q Z B c i.
      ap (λ (k : ℕ). refuse (view h E Q Z B) c (A.PayloadTooLong k)) (sym payload)
      ∙ sym (row_17 (view h E Q Z B) c (message_of m) i (lt-ltb 16 (length (message_of m).payload) (omega (arith, payload))))

  module _ (l : m.len ≤ 16) (t : Bool) (et : t ≡ ltb max_pending (h.pending + 1)) where
    room : (u : Bool) → t ≡ u → (Q : List ℕ) → leb max_pending (length (events_of h.pending Q)) ≡ u
    room u e Q = ap (leb max_pending) (length_tab (event_at Q) 0 h.pending) ∙ one_over max_pending h.pending ∙ sym et ∙ e

    pub queue_full : t ≡ true → QueueRefusal h m (Err P.QueueFull)
    queue_full k = λ E Q Z B c i. sym (row_18 (view h E Q Z B) c (message_of m) i (short l) (room true k Q))

    module _ (k : t ≡ false) (u : Bool) (eu : u ≡ ltb max_count (h.next + 1)) where
      pub queue_late : u ≡ true → QueueRefusal h m (Err P.EventSequenceOverflow)
      queue_late x = λ E Q Z B c i. sym (row_19 (view h E Q Z B) c (message_of m) i (short l) (room false k Q) (sym eu ∙ x))

-- Rows 12 to 16, and then those of the queue.
module _ (h : Header) (E : List ℕ) (m : Message) where
  pub add_poisoned : h.poisoned ≡ true → InitialRefusal h E m (Err P.Poisoned)
  add_poisoned p = λ Q Z B c f. sym (row_12 (view h E Q Z B) c (message_of m) f p)

  module _ (p : h.poisoned ≡ false) where
    pub add_closed : h.initial ≡ false → InitialRefusal h E m (Err P.InitialEventsAlreadyClosed)
    add_closed o = λ Q Z B c f. sym (row-13 (view h E Q Z B) c (message_of m) f p o)

    module _ (o : h.initial ≡ true) (a : ℕ) (ea : a ≡ lp_id_of m.source) where
      pub add_source : h.n ≤ a → InitialRefusal h E m (Err (P.UnknownInitialSource m.source))
      add_source l = λ Q Z B c f. sym (row-14 (view h E Q Z B) c (message_of m) f p o (le-leb h.n _ (omega arith)))

      module _ (l : a < h.n) (b : ℕ) (eb : b ≡ lp_id_of m.destination) where
        known : leb h.n (lp_id_of m.source) ≡ false
        known = lt-leb h.n _ (omega arith)

        pub add_destination : h.n ≤ b → InitialRefusal h E m (Err (P.UnknownInitialDestination m.destination))
        add_destination k = λ Q Z B c f. sym (row-15 (view h E Q Z B) c (message_of m) f p o known (le-leb h.n _ (omega arith)))

        module _ (k : b < h.n) (t : Bool) (et : t ≡ route (edges_of h.edges E) (lp_id_of m.source) (lp_id_of m.destination)) where
          reached : leb h.n (lp_id_of m.destination) ≡ false
          reached = lt-leb h.n _ (omega arith)

          pub add_unrouted : t ≡ false → InitialRefusal h E m (Err (P.InitialRouteMissing m.source m.destination))
          add_unrouted u = λ Q Z B c f. sym (row-16 (view h E Q Z B) c (message_of m) f p o known reached (sym et ∙ u))

-- Then the queue.
module _ (h : Header) (E Q : List ℕ) (m : Message) where
  pub added : HasRoom h m × RowsPassed h E m → (k : Header) (Q' : List ℕ) → Enqueues h Q m k Q' → AddsInitial h E Q m (record { answer = Ok D.Accepted; head = k }) Q'
  unfolding record_of
  added p k Q' g = rw g.head (record {
    gives = λ Z B c f.
        let t : leb max_pending (length (events_of h.pending Q)) ≡ false = lt-leb 512 (length (events_of h.pending Q)) (omega (arith, length_tab (event_at Q) 0 h.pending, p.0.place)) in
        let n : h.next + 1 ≡ suc h.next = omega arith in
        (λ j. out A.Accepted (with_pending (view h E Q Z B) (g.inserted.events j) (n j)) c)
        ∙ sym (accepted (view h E Q Z B) c (message_of m) (p.1 Q Z B f) (short h m p.0.short) t (le-ltb max_count (h.next + 1) (omega (arith, p.0.number))));
    kept = λ es y. accepted_moves y;
  })
