-- Every refusal has a number, of at most two digits.
use Prim.Native.Nat.{ℕ, ◌<◌}
use native.Mathlib.Omega.{arith}
use Rattle.rules.specs.Answers
use Rattle.rules.specs.Answers.{Refusal, refusal_number}

pub record Numbered (n : ℕ) : Type 0 where
  pub positive : 0 < n
  pub small : n < 100

there : (n : ℕ) → 0 < n → n < 100 → Numbered n
there n a b = record { positive = a; small = b }

pub numbered : (r : Refusal) → Numbered (refusal_number r)
unfolding refusal_number
numbered (Answers.InvalidPartitionCount c) = there _ (omega arith) (omega arith)
numbered Answers.InvalidLookahead = there _ (omega arith) (omega arith)
numbered Answers.UnorderedProcesses = there _ (omega arith) (omega arith)
numbered (Answers.ProcessSetMismatch mask k) = there _ (omega arith) (omega arith)
numbered Answers.MalformedTopology = there _ (omega arith) (omega arith)
numbered (Answers.MissingTopologyEntry p) = there _ (omega arith) (omega arith)
numbered (Answers.UnknownTopologySource p) = there _ (omega arith) (omega arith)
numbered (Answers.UnknownTopologyDestination a b) = there _ (omega arith) (omega arith)
numbered (Answers.SelfLoop p) = there _ (omega arith) (omega arith)
numbered (Answers.DuplicateNeighbor a b) = there _ (omega arith) (omega arith)
numbered Answers.InvalidEdgeLookahead = there _ (omega arith) (omega arith)
numbered Answers.ForeignState = there _ (omega arith) (omega arith)
numbered Answers.Poisoned = there _ (omega arith) (omega arith)
numbered Answers.InitialEventsAlreadyClosed = there _ (omega arith) (omega arith)
numbered (Answers.UnknownInitialSource p) = there _ (omega arith) (omega arith)
numbered (Answers.UnknownInitialDestination p) = there _ (omega arith) (omega arith)
numbered (Answers.InitialRouteMissing a b) = there _ (omega arith) (omega arith)
numbered (Answers.PayloadTooLong k) = there _ (omega arith) (omega arith)
numbered Answers.QueueFull = there _ (omega arith) (omega arith)
numbered Answers.EventSequenceOverflow = there _ (omega arith) (omega arith)
numbered Answers.RunOpen = there _ (omega arith) (omega arith)
numbered (Answers.HorizonRegression g h) = there _ (omega arith) (omega arith)
numbered (Answers.HorizonOverflow h) = there _ (omega arith) (omega arith)
numbered Answers.NothingToStep = there _ (omega arith) (omega arith)
numbered (Answers.EventBudgetExceeded b) = there _ (omega arith) (omega arith)
numbered Answers.NoBatch = there _ (omega arith) (omega arith)
numbered Answers.MalformedReply = there _ (omega arith) (omega arith)
numbered (Answers.HandlerFailed p) = there _ (omega arith) (omega arith)
numbered (Answers.OutboundSourceMismatch p a) = there _ (omega arith) (omega arith)
numbered (Answers.UnknownOutboundDestination b) = there _ (omega arith) (omega arith)
numbered (Answers.OutboundRouteMissing a b) = there _ (omega arith) (omega arith)
numbered (Answers.LookaheadOverflow p t l) = there _ (omega arith) (omega arith)
numbered (Answers.OutboundLookaheadViolation p t u m) = there _ (omega arith) (omega arith)
numbered (Answers.Straggler b u h) = there _ (omega arith) (omega arith)
numbered Answers.EmptyPartitionEntities = there _ (omega arith) (omega arith)
numbered (Answers.DuplicatePartitionEntity e) = there _ (omega arith) (omega arith)
numbered Answers.TooManyEntities = there _ (omega arith) (omega arith)
