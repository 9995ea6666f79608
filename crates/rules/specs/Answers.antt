-- What a call answers: one constructor for each answer and each refusal, and the number and the values that document 01's table gives to each.
-- Refusals have the names of the Rust's RuntimeError and PdesError where those have one; its HandlerPanicked is HandlerFailed here, since a host reports it, and plan's InvalidPartitionLookahead is build's InvalidLookahead: one row.
use Rattle.std.specs.Prelude.{List, [], ◌∷◌, ◌++◌, ℕ, length}
use Rattle.rules.specs.State.{Event, Counters}

-- "Entities are sorted by (index, generation)".
pub record Entity : Type 0 where
  pub index : ℕ
  pub generation : ℕ

-- The rows of the table, in its order, and A.4's 40 where build checks it. Ids, ticks, lookaheads, counts and masks are numbers.
pub data Refusal : Type 0 where
  InvalidPartitionCount : ℕ → Refusal
  InvalidLookahead : Refusal
  UnorderedProcesses : Refusal
  ProcessSetMismatch : ℕ → ℕ → Refusal
  MalformedTopology : Refusal
  MissingTopologyEntry : ℕ → Refusal
  UnknownTopologySource : ℕ → Refusal
  UnknownTopologyDestination : ℕ → ℕ → Refusal
  SelfLoop : ℕ → Refusal
  DuplicateNeighbor : ℕ → ℕ → Refusal
  InvalidEdgeLookahead : Refusal
  ForeignState : Refusal
  Poisoned : Refusal
  InitialEventsAlreadyClosed : Refusal
  UnknownInitialSource : ℕ → Refusal
  UnknownInitialDestination : ℕ → Refusal
  InitialRouteMissing : ℕ → ℕ → Refusal
  PayloadTooLong : ℕ → Refusal
  QueueFull : Refusal
  EventSequenceOverflow : Refusal
  RunOpen : Refusal
  HorizonRegression : ℕ → ℕ → Refusal
  HorizonOverflow : ℕ → Refusal
  NothingToStep : Refusal
  EventBudgetExceeded : ℕ → Refusal
  NoBatch : Refusal
  MalformedReply : Refusal
  HandlerFailed : ℕ → Refusal
  OutboundSourceMismatch : ℕ → ℕ → Refusal
  UnknownOutboundDestination : ℕ → Refusal
  OutboundRouteMissing : ℕ → ℕ → Refusal
  LookaheadOverflow : ℕ → ℕ → ℕ → Refusal
  OutboundLookaheadViolation : ℕ → ℕ → ℕ → ℕ → Refusal
  Straggler : ℕ → ℕ → ℕ → Refusal
  EmptyPartitionEntities : Refusal
  DuplicatePartitionEntity : Entity → Refusal
  TooManyEntities : Refusal

-- Column "No."
unfoldable pub refusal_number : Refusal → ℕ
refusal_number (InvalidPartitionCount c) = 1
refusal_number InvalidLookahead = 2
refusal_number UnorderedProcesses = 3
refusal_number (ProcessSetMismatch mask k) = 4
refusal_number MalformedTopology = 5
refusal_number (MissingTopologyEntry p) = 6
refusal_number (UnknownTopologySource p) = 7
refusal_number (UnknownTopologyDestination a b) = 8
refusal_number (SelfLoop p) = 9
refusal_number (DuplicateNeighbor a b) = 10
refusal_number InvalidEdgeLookahead = 40
refusal_number ForeignState = 11
refusal_number Poisoned = 12
refusal_number InitialEventsAlreadyClosed = 13
refusal_number (UnknownInitialSource p) = 14
refusal_number (UnknownInitialDestination p) = 15
refusal_number (InitialRouteMissing a b) = 16
refusal_number (PayloadTooLong k) = 17
refusal_number QueueFull = 18
refusal_number EventSequenceOverflow = 19
refusal_number RunOpen = 20
refusal_number (HorizonRegression g h) = 21
refusal_number (HorizonOverflow h) = 22
refusal_number NothingToStep = 23
refusal_number (EventBudgetExceeded b) = 24
refusal_number NoBatch = 25
refusal_number MalformedReply = 26
refusal_number (HandlerFailed p) = 27
refusal_number (OutboundSourceMismatch p a) = 28
refusal_number (UnknownOutboundDestination b) = 29
refusal_number (OutboundRouteMissing a b) = 30
refusal_number (LookaheadOverflow p t l) = 31
refusal_number (OutboundLookaheadViolation p t u m) = 32
refusal_number (Straggler b u h) = 33
refusal_number EmptyPartitionEntities = 34
refusal_number (DuplicatePartitionEntity e) = 35
refusal_number TooManyEntities = 36

-- Column "Returned".
unfoldable pub refusal_values : Refusal → List ℕ
refusal_values (InvalidPartitionCount c) = c ∷ []
refusal_values InvalidLookahead = []
refusal_values UnorderedProcesses = []
refusal_values (ProcessSetMismatch mask k) = mask ∷ k ∷ []
refusal_values MalformedTopology = []
refusal_values (MissingTopologyEntry p) = p ∷ []
refusal_values (UnknownTopologySource p) = p ∷ []
refusal_values (UnknownTopologyDestination a b) = a ∷ b ∷ []
refusal_values (SelfLoop p) = p ∷ []
refusal_values (DuplicateNeighbor a b) = a ∷ b ∷ []
refusal_values InvalidEdgeLookahead = []
refusal_values ForeignState = []
refusal_values Poisoned = []
refusal_values InitialEventsAlreadyClosed = []
refusal_values (UnknownInitialSource p) = p ∷ []
refusal_values (UnknownInitialDestination p) = p ∷ []
refusal_values (InitialRouteMissing a b) = a ∷ b ∷ []
refusal_values (PayloadTooLong k) = k ∷ []
refusal_values QueueFull = []
refusal_values EventSequenceOverflow = []
refusal_values RunOpen = []
refusal_values (HorizonRegression g h) = g ∷ h ∷ []
refusal_values (HorizonOverflow h) = h ∷ []
refusal_values NothingToStep = []
refusal_values (EventBudgetExceeded b) = b ∷ []
refusal_values NoBatch = []
refusal_values MalformedReply = []
refusal_values (HandlerFailed p) = p ∷ []
refusal_values (OutboundSourceMismatch p a) = p ∷ a ∷ []
refusal_values (UnknownOutboundDestination b) = b ∷ []
refusal_values (OutboundRouteMissing a b) = a ∷ b ∷ []
refusal_values (LookaheadOverflow p t l) = p ∷ t ∷ l ∷ []
refusal_values (OutboundLookaheadViolation p t u m) = p ∷ t ∷ u ∷ m ∷ []
refusal_values (Straggler b u h) = b ∷ u ∷ h ∷ []
refusal_values EmptyPartitionEntities = []
refusal_values (DuplicatePartitionEntity e) = e.index ∷ e.generation ∷ []
refusal_values TooManyEntities = []

-- What the four reads answer.
pub data Reading : Type 0 where
  Gvt : ℕ → Reading
  Counted : Counters → ℕ → Reading
  Pending : ℕ → Reading
  Earliest : ℕ → Reading

unfoldable pub reading_values : Reading → List ℕ
reading_values (Gvt g) = g ∷ []
reading_values (Counted c u) = c.handled ∷ c.emitted ∷ c.remote ∷ c.rounds ∷ c.null_messages ∷ c.worker_count ∷ u ∷ []
reading_values (Pending k) = k ∷ []
reading_values (Earliest t) = t ∷ []

-- Every answer. Promises equate whole answers of this type, and their numbers and values. "Step and hand back carry GVT unless they refuse": it is the last number of a Batch, Advanced, Finished and Committed.
-- Build, add initial and begin answer Accepted, with nothing beside it; plan answers how many entities it wrote.
pub data Answer : Type 0 where
  Accepted : Answer
  Batch : List Event → ℕ → Answer
  Advanced : ℕ → Answer
  Finished : ℕ → Answer
  Committed : ℕ → Answer
  Read : Reading → Answer
  Planned : ℕ → Answer
  Refused : Refusal → Answer

-- Document 01's number of an answer; 0 where nothing was refused.
unfoldable pub number : Answer → ℕ
number Accepted = 0
number (Batch es g) = 0
number (Advanced g) = 0
number (Finished g) = 0
number (Committed g) = 0
number (Read r) = 0
number (Planned k) = 0
number (Refused r) = refusal_number r

-- The numbers of events in turn: destination, tick, source, sequence, how many bytes of payload, and these.
unfoldable pub event_values : List Event → List ℕ
event_values [] = []
event_values (e ∷ es) = (e.destination ∷ e.tick ∷ e.source ∷ e.sequence ∷ length e.payload ∷ e.payload) ++ event_values es

-- The values that come with an answer, as numbers; of a batch its GVT and then its events, all of each.
unfoldable pub values : Answer → List ℕ
values Accepted = []
values (Batch es g) = g ∷ event_values es
values (Advanced g) = g ∷ []
values (Finished g) = g ∷ []
values (Committed g) = g ∷ []
values (Read r) = reading_values r
values (Planned k) = k ∷ []
values (Refused r) = refusal_values r
