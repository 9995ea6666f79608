-- What the core of add initial promises: answer and state are what the rule gives, of every state that 11 lets pass.
use Rattle.std.specs.Prelude.{◌≡◌, true, false, List, ℕ, ◌≤◌, ◌<◌, leb, length, Result, Err}
use Rattle.types.specs.Value.{lp_id_of}
use Rattle.rules.specs.Base.{any, rising}
use Rattle.rules.specs.State as R
use Rattle.rules.specs.State.{Event, State, Counters}
use Rattle.rules.specs.Rows.{out}
use Rattle.rules.specs.Foreign.{foreign}
use Rattle.rules.specs.Pending.{before, route}
use Rattle.rules.specs.Initial.{add_initial}
use Rattle.rules.specs.History.{refused}
use Rattle.state.specs.declared.Header.{Header}
use Rattle.state.specs.declared.Message.{Message}
use Rattle.state.specs.declared.Refusal.{Refusal}
use Rattle.state.specs.View.{view, message_of, answer_of}
use Rattle.state.specs.Headers.{enqueued_header}
use Rattle.state.specs.RefusalOr.{RefusalOr}
use Rattle.records.specs.declared.Record.{Record}
use Rattle.records.specs.Records.{events_of}
use Rattle.records.specs.Queue.{Inserted}
use Rattle.state.specs.declared.HeaderResult.{HeaderResult}

-- The message as a pending record.
unfoldable pub record_of : Message → ℕ → Record
record_of m k = record { destination = lp_id_of m.destination; hi = m.tick.hi; lo = m.tick.lo; source = lp_id_of m.source; sequence = k; len = m.len; payload_hi = m.payload_hi; payload_lo = m.payload_lo }

-- What an insertion asks of the pending words.
pub record CanEnqueue (h : Header) (pending : List ℕ) : Type 0 where
  pub pending_words : length pending ≡ 4096
  pub order : rising before (events_of h.pending pending) ≡ true
  pub newest : any (λ e. leb h.next e.sequence) (events_of h.pending pending) ≡ false

-- 11 to 16 let the message pass.
pub record InitialAllowed (s : State) (m : R.Message) : Type 0 where
  pub passes : foreign s ≡ false
  pub healthy : s.poisoned ≡ false
  pub opened : s.initial ≡ true
  pub source : leb s.n m.source ≡ false
  pub destination : leb s.n m.destination ≡ false
  pub routed : route s.edges m.source m.destination ≡ true

-- Whatever the other arrays and the counters are.
pub record AddsInitial (h : Header) (edges pending : List ℕ) (m : Message) (r : HeaderResult) (pending' : List ℕ) : Type 0 where
  pub gives : (Z B : List ℕ) (c : Counters) → foreign (view h edges pending Z B) ≡ false
      → out (answer_of (events_of r.head.batch B) r.answer) (view r.head edges pending' Z B) c ≡ add_initial (view h edges pending Z B) c (message_of m)
  pub kept : (es : List Event) → refused (answer_of es r.answer) ≡ true → (r.head ≡ h) × (pending' ≡ pending)

-- 17 to 19 let the message pass.
pub record HasRoom (h : Header) (m : Message) : Type 0 where
  pub short : m.len ≤ 16
  pub place : h.pending < 512
  pub number : h.next < 18446744073709551615

-- The rule refuses as e says, whatever the other arrays and the counters are.
abbrev pub Refuses : (State → Type 0) → Header → List ℕ → Message → Refusal → Type 0
Refuses Lets h E m e = (P Z B : List ℕ) (c : Counters) → Lets (view h E P Z B) → out (answer_of (events_of h.batch B) (Err e)) (view h E P Z B) c ≡ add_initial (view h E P Z B) c (message_of m)

-- What rows 17 to 19 answer, where those before them let the message pass; and rows 12 to 19, where 11 lets the state pass.
abbrev pub QueueRefusal : Header → Message → Result (Unit {0}) Refusal → Type 0
QueueRefusal h m r = RefusalOr r (HasRoom h m) (λ e. (E : List ℕ) → Refuses (λ s. InitialAllowed s (message_of m)) h E m e)

abbrev pub RowsPassed : Header → List ℕ → Message → Type 0
RowsPassed h E m = (P Z B : List ℕ) → foreign (view h E P Z B) ≡ false → InitialAllowed (view h E P Z B) (message_of m)

abbrev pub InitialRefusal : Header → List ℕ → Message → Result (Unit {0}) Refusal → Type 0
InitialRefusal h E m r = RefusalOr r (HasRoom h m × RowsPassed h E m) (Refuses (λ s. foreign s ≡ false) h E m)

-- The message is pending at its place.
pub record Enqueues (h : Header) (pending : List ℕ) (m : Message) (r : Header) (pending' : List ℕ) : Type 0 where
  pub head : r ≡ enqueued_header h
  pub inserted : Inserted h.pending (record_of m h.next) pending pending'
