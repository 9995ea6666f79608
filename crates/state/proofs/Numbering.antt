-- An answer's number and values are those of the rules' answer that it stands for.
use mathlib.Core.Path.{◌≡◌, refl, ap, ◌∙◌}
use mathlib.Core.List.{List}
use Rattle.rules.specs.State.{Event}
use Rattle.rules.specs.Answers as A
use Rattle.rules.specs.Answers.{number, values, refusal_number, refusal_values}
use Rattle.state.specs.declared.Answer.{Answer}
use Rattle.state.specs.declared.Answer.TheVariants as D
use Rattle.state.specs.declared.Refusal.{Refusal}
use Rattle.state.specs.declared.Refusal.TheVariants as P
use Rattle.std.specs.Prelude.{Result, Ok, Err}
use Rattle.state.specs.View.{answer_of}
use Rattle.state.specs.Numbers.{number_of, values_of}

record Numbering (es : List Event) (a : Result Answer Refusal) : Type 0 where
  pub number_is : number_of a ≡ number (answer_of es a)
  pub values_are : values_of es a ≡ values (answer_of es a)

numbering : (es : List Event) (a : Result Answer Refusal) → Numbering es a
unfolding number values refusal_number refusal_values
numbering es (Ok D.Accepted) = record { number_is = refl; values_are = refl }
numbering es (Ok (D.Batch g)) = record { number_is = refl; values_are = refl }
numbering es (Ok (D.Advanced g)) = record { number_is = refl; values_are = refl }
numbering es (Ok (D.Finished g)) = record { number_is = refl; values_are = refl }
numbering es (Ok (D.Committed g)) = record { number_is = refl; values_are = refl }
numbering es (Err P.ForeignState) = record { number_is = refl; values_are = refl }
numbering es (Err P.Poisoned) = record { number_is = refl; values_are = refl }
numbering es (Err P.InitialEventsAlreadyClosed) = record { number_is = refl; values_are = refl }
numbering es (Err (P.UnknownInitialSource p)) = record { number_is = refl; values_are = refl }
numbering es (Err (P.UnknownInitialDestination p)) = record { number_is = refl; values_are = refl }
numbering es (Err (P.InitialRouteMissing a b)) = record { number_is = refl; values_are = refl }
numbering es (Err (P.PayloadTooLong k)) = record { number_is = refl; values_are = refl }
numbering es (Err P.QueueFull) = record { number_is = refl; values_are = refl }
numbering es (Err P.EventSequenceOverflow) = record { number_is = refl; values_are = refl }
numbering es (Err P.RunOpen) = record { number_is = refl; values_are = refl }
numbering es (Err (P.HorizonRegression g h)) = record { number_is = refl; values_are = refl }
numbering es (Err (P.HorizonOverflow h)) = record { number_is = refl; values_are = refl }
numbering es (Err P.NothingToStep) = record { number_is = refl; values_are = refl }
numbering es (Err (P.EventBudgetExceeded b)) = record { number_is = refl; values_are = refl }
numbering es (Err P.NoBatch) = record { number_is = refl; values_are = refl }
numbering es (Err P.MalformedReply) = record { number_is = refl; values_are = refl }
numbering es (Err (P.HandlerFailed p)) = record { number_is = refl; values_are = refl }
numbering es (Err (P.OutboundSourceMismatch p a)) = record { number_is = refl; values_are = refl }
numbering es (Err (P.UnknownOutboundDestination b)) = record { number_is = refl; values_are = refl }
numbering es (Err (P.OutboundRouteMissing a b)) = record { number_is = refl; values_are = refl }
numbering es (Err (P.LookaheadOverflow p t l)) = record { number_is = refl; values_are = refl }
numbering es (Err (P.OutboundLookaheadViolation p t u m)) = record { number_is = refl; values_are = refl }
numbering es (Err (P.Straggler b u h)) = record { number_is = refl; values_are = refl }

module _ (es : List Event) (a : Result Answer Refusal) (b : A.Answer) (e : answer_of es a ≡ b) where
  pub numbered : number_of a ≡ number b
  numbered = (numbering es a).number_is ∙ ap number e

  pub valued : values_of es a ≡ values b
  valued = (numbering es a).values_are ∙ ap values e
