-- Hand back: document 01, "Step and hand back", rows 11, 12, 25, 26, then 27 to 33, 19, 18, 24.
use Rattle.std.specs.Prelude.{Bool, false, not, ◌&&◌, ◌||◌, List, [], ◌∷◌, ◌++◌, map, ℕ, ◌+◌, ◌^◌, ◌/◌, ◌%◌, max, leb, ltb, eqb, length, get_or}
use Rattle.rules.specs.Base.{if◌then◌otherwise◌, up_to, any, any_of, count, non_empty}
use Rattle.rules.specs.State.{Message, Event, Stored, unset, stored, State, Counters, with_handled, closed, poison, saturating_add, max_tick, max_count, max_processes, max_pending, max_payload}
use Rattle.rules.specs.Answers
use Rattle.rules.specs.Answers.{Refusal, Committed, Refused}
use Rattle.rules.specs.Rows.{Row, ◌⇒◌, unless, Out, out, refuse}
use Rattle.rules.specs.Pending.{queue, route, lookahead_along}
use Rattle.rules.specs.Foreign.{foreign}
use Rattle.rules.specs.Refresh.{refreshed}
use Rattle.rules.specs.Step.{spent}

-- "A reply is a mask of failed processes and a lent list of emission records, each with its emitter."
pub record Emission : Type 0 where
  pub emitter : ℕ
  pub message : Message

unfoldable pub failed : ℕ → ℕ → Bool
failed mask p = eqb (mask / 2 ^ p % 2) 1

-- "Malformed: emitters fall, an emitter or failed process isn't in the batch, a failed one has emissions, a payload is above 16."
unfoldable pub emitters_fall : List Emission → Bool
emitters_fall [] = false
emitters_fall (x ∷ []) = false
emitters_fall (x ∷ y ∷ ys) = ltb y.emitter x.emitter || emitters_fall (y ∷ ys)

unfoldable pub in_batch : List Event → ℕ → Bool
in_batch batch p = any (λ e. eqb e.destination p) batch

unfoldable pub malformed : List Event → ℕ → List Emission → Bool
malformed batch mask xs =
    any_of
    (emitters_fall xs
    ∷ any (λ x. not (in_batch batch x.emitter)) xs
    ∷ any (λ p. failed mask p && not (in_batch batch p)) (up_to max_processes)
    ∷ any (λ x. failed mask x.emitter) xs
    ∷ any (λ x. ltb max_payload (length x.message.payload)) xs
    ∷ [])

-- "The minimum tick is the event's tick for an emission to oneself, else that tick + L." A.4: L is that of the edge.
unfoldable pub minimum : ℕ → ℕ → ℕ → Message → ℕ
minimum L p t m = if eqb m.destination p then t otherwise t + L

-- 28 to 32 of the emission m of the process p, whose event has tick t, in a runtime of n processes with the routes given and L, the lookahead of the edge that m goes along. To oneself the minimum is a tick, so 31 does not hold.
abbrev pub message_rows : ℕ → (ℕ → ℕ → Bool) → ℕ → ℕ → ℕ → Message → List Row
message_rows n routes L p t m =
    (not (eqb m.source p) ⇒ Answers.OutboundSourceMismatch p m.source)
    ∷ (leb n m.destination ⇒ Answers.UnknownOutboundDestination m.destination)
    ∷ (not (routes p m.destination) ⇒ Answers.OutboundRouteMissing p m.destination)
    ∷ (ltb max_tick (minimum L p t m) ⇒ Answers.LookaheadOverflow p t L)
    ∷ (ltb m.tick (minimum L p t m) ⇒ Answers.OutboundLookaheadViolation p t m.tick (minimum L p t m))
    ∷ []

-- 33: "straggler: emission below the destination's local horizon"
abbrev pub straggler_row : State → Message → Row
straggler_row s m = ltb m.tick (get_or s.horizons m.destination 0) ⇒ Answers.Straggler m.destination m.tick (get_or s.horizons m.destination 0)

-- "for its emissions in turn, 28 to 33": those of the event e in hand.
unfoldable pub emission_rows : State → Event → List Emission → List Row
emission_rows s e [] = []
emission_rows s e (x ∷ xs) =
    if eqb x.emitter e.destination then (message_rows s.n (route s.edges) (lookahead_along s.edges x.emitter x.message.destination) x.emitter e.tick x.message ++ (straggler_row s x.message ∷ emission_rows s e xs))
    otherwise emission_rows s e xs

-- "process by process in id order 27 and, for its emissions in turn, 28 to 33 (so an earlier process's bad emission comes before a later one's failure)"
unfoldable pub process_rows : State → ℕ → List Emission → List Event → List Row
process_rows s mask xs [] = []
process_rows s mask xs (e ∷ es) = (failed mask e.destination ⇒ Answers.HandlerFailed e.destination) ∷ (emission_rows s e xs ++ process_rows s mask xs es)

-- "then 19, then 18". All of these poison. "Freed event places count as free again": the batch is pending no more, so 18 does not count it.
abbrev pub poison_rows : State → ℕ → List Emission → List Row
poison_rows s mask xs =
    process_rows s mask xs s.batch
    ++ ((ltb max_count (s.next + length xs) ⇒ Answers.EventSequenceOverflow)
    ∷ (ltb max_pending (length s.pending + length xs) ⇒ Answers.QueueFull)
    ∷ [])

abbrev pub hand_back_rows : State → ℕ → List Emission → List Row
hand_back_rows s mask xs =
    (foreign s ⇒ Answers.ForeignState)
    ∷ (s.poisoned ⇒ Answers.Poisoned)
    ∷ (not (non_empty s.batch) ⇒ Answers.NoBatch)
    ∷ (malformed s.batch mask xs ⇒ Answers.MalformedReply)
    ∷ []

-- "remote (destination is not source)"
abbrev pub is_remote : Emission → Bool
is_remote x = not (eqb x.message.destination x.message.source)

-- "Handled, emitted and remote (..) grow by their counts, .. rounds by 1; the worker count is the largest batch so far."
abbrev pub count_round : Counters → List Event → List Emission → Counters
count_round c batch xs = record { handled = saturating_add c.handled (length batch); emitted = saturating_add c.emitted (length xs); remote = saturating_add c.remote (count is_remote xs); rounds = saturating_add c.rounds 1; null_messages = c.null_messages; worker_count = max c.worker_count (length batch) }

abbrev pub messages : List Emission → List Message
messages xs = map (λ (x : Emission). x.message) xs

-- "After all checks, everything is queued in list order", used grows "by the events handled".
abbrev pub handled : State → List Emission → State
handled s xs = with_handled s (queue s.pending s.next (messages xs)) (s.next + length xs) (saturating_add s.used (length s.batch))

-- "Then 24 if used >= budget and an event is eligible, without refresh; else refresh and answer Committed."
unfoldable pub commit : State → Counters → ℕ → ℕ → List Emission → Out
commit s c horizon budget xs =
    let t = handled s xs in
    let u = refreshed t horizon t.edges t.inbound t.horizons in
    if spent t horizon budget then out (Refused (Answers.EventBudgetExceeded budget)) (closed t) (count_round c s.batch xs)
    otherwise out (Committed u.gvt) u (count_round c s.batch xs)

-- A batch has an open run, and that a horizon: 11 was checked.
unfoldable pub commit_at : State → Counters → Stored → List Emission → Out
commit_at s c unset xs = refuse s c Answers.NoBatch
commit_at s c (stored horizon budget) xs = commit s c horizon budget xs

-- What the last column calls "poisoned".
abbrev pub poison_with : State → Counters → Refusal → Out
poison_with s c r = out (Refused r) (poison s) c

unfoldable pub hand_back : State → Counters → ℕ → List Emission → Out
hand_back s c mask xs = unless (hand_back_rows s mask xs) (refuse s c) (unless (poison_rows s mask xs) (poison_with s c) (commit_at s c s.stored xs))
