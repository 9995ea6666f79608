-- What a runtime is: its limits, events, edges, counters and state.
use Rattle.std.specs.Prelude.{Bool, true, false, List, [], ℕ, ◌+◌, ◌-◌, ◌^◌, min}

-- "Limits: 1 to 64 processes, ids 0 to n-1; 512 edges; 512 pending events; payload 0 to 16 bytes; 1,024 entities."
abbrev pub max_processes : ℕ
max_processes = 64

abbrev pub max_edges : ℕ
max_edges = 512

abbrev pub max_pending : ℕ
max_pending = 512

abbrev pub max_payload : ℕ
max_payload = 16

abbrev pub max_entities : ℕ
max_entities = 1024

-- "Ticks and lookahead have 128 bits": the largest tick.
abbrev pub max_tick : ℕ
max_tick = 2 ^ 128 - 1

-- "budget and counters 64": the largest count, and the largest next sequence number.
abbrev pub max_count : ℕ
max_count = 2 ^ 64 - 1

-- "Counters, used among them, stop at 2^64 - 1."
abbrev pub saturating_add : ℕ → ℕ → ℕ
saturating_add c k = min max_count (c + k)

-- "An event has source, destination, tick and payload; accepted, it gets the next sequence number".
-- A message is an event before it is accepted.
pub record Message : Type 0 where
  pub source : ℕ
  pub destination : ℕ
  pub tick : ℕ
  pub payload : List ℕ

pub record Event : Type 0 where
  pub source : ℕ
  pub destination : ℕ
  pub tick : ℕ
  pub sequence : ℕ
  pub payload : List ℕ

abbrev pub numbered : Message → ℕ → Event
numbered m k = record { source = m.source; destination = m.destination; tick = m.tick; sequence = k; payload = m.payload }

-- "Each edge has a bound"; A.4: "Each edge gets its own lookahead".
pub record Edge : Type 0 where
  pub source : ℕ
  pub destination : ℕ
  pub lookahead : ℕ
  pub bound : ℕ

-- The edge with the bound b.
abbrev pub with_bound : Edge → ℕ → Edge
with_bound e b = record { source = e.source; destination = e.destination; lookahead = e.lookahead; bound = b }

-- "Handled, emitted and remote (destination is not source)", rounds, null messages, "the worker count". They are lent, so they stand beside the state.
pub record Counters : Type 0 where
  pub handled : ℕ
  pub emitted : ℕ
  pub remote : ℕ
  pub rounds : ℕ
  pub null_messages : ℕ
  pub worker_count : ℕ

abbrev pub zeros : Counters
zeros = record { handled = 0; emitted = 0; remote = 0; rounds = 0; null_messages = 0; worker_count = 0 }

-- "the stored horizon and budget if any".
pub data Stored : Type 0 where
  unset : Stored
  stored : ℕ → ℕ → Stored

-- "processes and edges, pending events with their sequence numbers, the next sequence number, edge bounds, local horizons, GVT, the stored horizon
-- and budget if any, the batch in hand, and whether initial events are open, a run is open and the runtime is poisoned"; and this run's used count.
-- `inbound` is A.2's record: "Keep each process's least inbound bound in the state".
pub record State : Type 0 where
  pub n : ℕ
  pub lookahead : ℕ
  pub edges : List Edge
  pub pending : List Event
  pub next : ℕ
  pub horizons : List ℕ
  pub inbound : List ℕ
  pub gvt : ℕ
  pub stored : Stored
  pub used : ℕ
  pub batch : List Event
  pub initial : Bool
  pub running : Bool
  pub poisoned : Bool

-- The state with some of its fields set anew: what add initial, begin, step and hand back change.

-- q is pending, and k is the next sequence number.
abbrev pub with_pending : State → List Event → ℕ → State
with_pending s q k = record { n = s.n; lookahead = s.lookahead; edges = s.edges; pending = q; next = k; horizons = s.horizons; inbound = s.inbound; gvt = s.gvt; stored = s.stored; used = s.used; batch = s.batch; initial = s.initial; running = s.running; poisoned = s.poisoned }

-- "Begin stores horizon and budget, closes initial events, sets this run's used count to 0 and opens the run."
abbrev pub with_run : State → ℕ → ℕ → State
with_run s h b = record { n = s.n; lookahead = s.lookahead; edges = s.edges; pending = s.pending; next = s.next; horizons = s.horizons; inbound = s.inbound; gvt = s.gvt; stored = stored h b; used = 0; batch = s.batch; initial = false; running = true; poisoned = s.poisoned }

-- The run is closed.
abbrev pub closed : State → State
closed s = record { n = s.n; lookahead = s.lookahead; edges = s.edges; pending = s.pending; next = s.next; horizons = s.horizons; inbound = s.inbound; gvt = s.gvt; stored = s.stored; used = s.used; batch = s.batch; initial = s.initial; running = false; poisoned = s.poisoned }

-- The batch b is in hand, and q is left pending.
abbrev pub with_batch : State → List Event → List Event → State
with_batch s b q = record { n = s.n; lookahead = s.lookahead; edges = s.edges; pending = q; next = s.next; horizons = s.horizons; inbound = s.inbound; gvt = s.gvt; stored = s.stored; used = s.used; batch = b; initial = s.initial; running = s.running; poisoned = s.poisoned }

-- The batch was handled: q is pending, k is the next sequence number, u is used.
abbrev pub with_handled : State → List Event → ℕ → ℕ → State
with_handled s q k u = record { n = s.n; lookahead = s.lookahead; edges = s.edges; pending = q; next = k; horizons = s.horizons; inbound = s.inbound; gvt = s.gvt; stored = s.stored; used = u; batch = []; initial = s.initial; running = s.running; poisoned = s.poisoned }

-- The edges es, with the record m of their least inbound bounds, the local horizons hs and GVT g.
abbrev pub with_bounds : State → List Edge → List ℕ → List ℕ → ℕ → State
with_bounds s es m hs g = record { n = s.n; lookahead = s.lookahead; edges = es; pending = s.pending; next = s.next; horizons = hs; inbound = m; gvt = g; stored = s.stored; used = s.used; batch = s.batch; initial = s.initial; running = s.running; poisoned = s.poisoned }

-- "'Poisoned' in the last column: the batch is lost, poisoned is set, all else stands."
abbrev pub poison : State → State
poison s = record { n = s.n; lookahead = s.lookahead; edges = s.edges; pending = s.pending; next = s.next; horizons = s.horizons; inbound = s.inbound; gvt = s.gvt; stored = s.stored; used = s.used; batch = []; initial = s.initial; running = s.running; poisoned = true }
