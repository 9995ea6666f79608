-- Which state, counters and answers of the rules the program's are.
use Rattle.std.specs.Prelude.{Bool, true, false, List, ℕ, Result, Ok, Err}
use Rattle.types.specs.Value.{ticks_of, duration_of, lp_id_of}
use Rattle.words.specs.Words.{horizons_of, inbounds_of}
use Rattle.records.specs.Records.{payload_of, edges_of, events_of}
use Rattle.rules.specs.State as R
use Rattle.rules.specs.State.{Event, Stored, unset, stored, State}
use Rattle.rules.specs.Answers as A
use Rattle.state.specs.declared.Header.{Header}
use Rattle.state.specs.declared.Runtime.{Runtime}
use Rattle.state.specs.declared.Counters.{Counters}
use Rattle.state.specs.declared.Message.{Message}
use Rattle.state.specs.declared.Answer.{Answer}
use Rattle.state.specs.declared.Answer.TheVariants as D
use Rattle.state.specs.declared.Refusal.{Refusal}
use Rattle.state.specs.declared.Refusal.TheVariants as P

-- "the stored horizon and budget if any"
abbrev pub stored_of : Bool → ℕ → ℕ → Stored
stored_of true h b = stored h b
stored_of false h b = unset

-- The first records of each array, as many as the header says. Reading past an array's end gives zeros, so a count over its limit is one of the state too.
abbrev pub view : Header → List ℕ → List ℕ → List ℕ → List ℕ → State
view h edges pending processes batch = record {
  n = h.n;
  lookahead = duration_of h.lookahead;
  edges = edges_of h.edges edges;
  pending = events_of h.pending pending;
  next = h.next;
  horizons = horizons_of h.n processes;
  inbound = inbounds_of h.n processes;
  gvt = ticks_of h.gvt;
  stored = stored_of h.stored (ticks_of h.horizon) h.budget;
  used = h.used;
  batch = events_of h.batch batch;
  initial = h.initial;
  running = h.running;
  poisoned = h.poisoned;
}

abbrev pub view_of : Runtime → State
view_of s = view s.head s.edges s.pending s.processes s.batch

abbrev pub counters_of : Counters → R.Counters
counters_of c = record { handled = c.processed_events; emitted = c.emitted_events; remote = c.remote_events; rounds = c.rounds; null_messages = c.null_messages; worker_count = c.worker_count }

abbrev pub message_of : Message → R.Message
message_of m = record { source = lp_id_of m.source; destination = lp_id_of m.destination; tick = ticks_of m.tick; payload = payload_of m.len m.payload_hi m.payload_lo }

-- Nothing is counted yet.
abbrev pub zero_counters : Counters
zero_counters = record { processed_events = 0; emitted_events = 0; remote_events = 0; rounds = 0; null_messages = 0; worker_count = 0 }

-- The rules' refusal that each refusal stands for.
abbrev pub refusal_of : Refusal → A.Refusal
refusal_of P.ForeignState = A.ForeignState
refusal_of P.Poisoned = A.Poisoned
refusal_of P.InitialEventsAlreadyClosed = A.InitialEventsAlreadyClosed
refusal_of (P.UnknownInitialSource p) = A.UnknownInitialSource (lp_id_of p)
refusal_of (P.UnknownInitialDestination p) = A.UnknownInitialDestination (lp_id_of p)
refusal_of (P.InitialRouteMissing a b) = A.InitialRouteMissing (lp_id_of a) (lp_id_of b)
refusal_of (P.PayloadTooLong k) = A.PayloadTooLong k
refusal_of P.QueueFull = A.QueueFull
refusal_of P.EventSequenceOverflow = A.EventSequenceOverflow
refusal_of P.RunOpen = A.RunOpen
refusal_of (P.HorizonRegression g h) = A.HorizonRegression (ticks_of g) (ticks_of h)
refusal_of (P.HorizonOverflow h) = A.HorizonOverflow (ticks_of h)
refusal_of P.NothingToStep = A.NothingToStep
refusal_of (P.EventBudgetExceeded b) = A.EventBudgetExceeded b
refusal_of P.NoBatch = A.NoBatch
refusal_of P.MalformedReply = A.MalformedReply
refusal_of (P.HandlerFailed p) = A.HandlerFailed (lp_id_of p)
refusal_of (P.OutboundSourceMismatch p a) = A.OutboundSourceMismatch (lp_id_of p) (lp_id_of a)
refusal_of (P.UnknownOutboundDestination b) = A.UnknownOutboundDestination (lp_id_of b)
refusal_of (P.OutboundRouteMissing a b) = A.OutboundRouteMissing (lp_id_of a) (lp_id_of b)
refusal_of (P.LookaheadOverflow p t l) = A.LookaheadOverflow (lp_id_of p) (ticks_of t) (duration_of l)
refusal_of (P.OutboundLookaheadViolation p t u m) = A.OutboundLookaheadViolation (lp_id_of p) (ticks_of t) (ticks_of u) (ticks_of m)
refusal_of (P.Straggler b u h) = A.Straggler (lp_id_of b) (ticks_of u) (ticks_of h)

-- The rules' answer that each answer stands for, with the batch in hand after it.
abbrev pub answer_of : List Event → Result Answer Refusal → A.Answer
answer_of es (Ok D.Accepted) = A.Accepted
answer_of es (Ok (D.Batch g)) = A.Batch es (ticks_of g)
answer_of es (Ok (D.Advanced g)) = A.Advanced (ticks_of g)
answer_of es (Ok (D.Finished g)) = A.Finished (ticks_of g)
answer_of es (Ok (D.Committed g)) = A.Committed (ticks_of g)
answer_of es (Err r) = A.Refused (refusal_of r)
