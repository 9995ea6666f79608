-- Document 01's number and values of each answer: "For any answer that is an enum, a definition gives this paper's number and values for each of its cases."
use Rattle.std.specs.Prelude.{List, [], ◌∷◌, ℕ, Result, Ok, Err}
use Rattle.types.specs.Value.{ticks_of, duration_of, lp_id_of}
use Rattle.rules.specs.State.{Event}
use Rattle.rules.specs.Answers.{event_values}
use Rattle.state.specs.declared.Answer.{Answer}
use Rattle.state.specs.declared.Answer.TheVariants as D
use Rattle.state.specs.declared.Refusal.{Refusal}
use Rattle.state.specs.declared.Refusal.TheVariants as P

-- Column "No." of each refusal.
abbrev pub number_for : Refusal → ℕ
number_for P.ForeignState = 11
number_for P.Poisoned = 12
number_for P.InitialEventsAlreadyClosed = 13
number_for (P.UnknownInitialSource p) = 14
number_for (P.UnknownInitialDestination p) = 15
number_for (P.InitialRouteMissing a b) = 16
number_for (P.PayloadTooLong k) = 17
number_for P.QueueFull = 18
number_for P.EventSequenceOverflow = 19
number_for P.RunOpen = 20
number_for (P.HorizonRegression g h) = 21
number_for (P.HorizonOverflow h) = 22
number_for P.NothingToStep = 23
number_for (P.EventBudgetExceeded b) = 24
number_for P.NoBatch = 25
number_for P.MalformedReply = 26
number_for (P.HandlerFailed p) = 27
number_for (P.OutboundSourceMismatch p a) = 28
number_for (P.UnknownOutboundDestination b) = 29
number_for (P.OutboundRouteMissing a b) = 30
number_for (P.LookaheadOverflow p t l) = 31
number_for (P.OutboundLookaheadViolation p t u m) = 32
number_for (P.Straggler b u h) = 33

-- 0 where nothing is refused.
abbrev pub number_of : Result Answer Refusal → ℕ
number_of (Ok a) = 0
number_of (Err r) = number_for r

-- Column "Returned" of each refusal.
abbrev pub values_for : Refusal → List ℕ
values_for P.ForeignState = []
values_for P.Poisoned = []
values_for P.InitialEventsAlreadyClosed = []
values_for (P.UnknownInitialSource p) = lp_id_of p ∷ []
values_for (P.UnknownInitialDestination p) = lp_id_of p ∷ []
values_for (P.InitialRouteMissing a b) = lp_id_of a ∷ lp_id_of b ∷ []
values_for (P.PayloadTooLong k) = k ∷ []
values_for P.QueueFull = []
values_for P.EventSequenceOverflow = []
values_for P.RunOpen = []
values_for (P.HorizonRegression g h) = ticks_of g ∷ ticks_of h ∷ []
values_for (P.HorizonOverflow h) = ticks_of h ∷ []
values_for P.NothingToStep = []
values_for (P.EventBudgetExceeded b) = b ∷ []
values_for P.NoBatch = []
values_for P.MalformedReply = []
values_for (P.HandlerFailed p) = lp_id_of p ∷ []
values_for (P.OutboundSourceMismatch p a) = lp_id_of p ∷ lp_id_of a ∷ []
values_for (P.UnknownOutboundDestination b) = lp_id_of b ∷ []
values_for (P.OutboundRouteMissing a b) = lp_id_of a ∷ lp_id_of b ∷ []
values_for (P.LookaheadOverflow p t l) = lp_id_of p ∷ ticks_of t ∷ duration_of l ∷ []
values_for (P.OutboundLookaheadViolation p t u m) = lp_id_of p ∷ ticks_of t ∷ ticks_of u ∷ ticks_of m ∷ []
values_for (P.Straggler b u h) = lp_id_of b ∷ ticks_of u ∷ ticks_of h ∷ []

-- "Step and hand back carry GVT unless they refuse". A batch's events are those in hand in the state left, es: they follow its GVT, all of each.
abbrev pub values_of : List Event → Result Answer Refusal → List ℕ
values_of es (Ok D.Accepted) = []
values_of es (Ok (D.Batch g)) = ticks_of g ∷ event_values es
values_of es (Ok (D.Advanced g)) = ticks_of g ∷ []
values_of es (Ok (D.Finished g)) = ticks_of g ∷ []
values_of es (Ok (D.Committed g)) = ticks_of g ∷ []
values_of es (Err r) = values_for r
