-- What holds of each of build's answers: its number and its values are those of the rules' answer that it stands for, and each of its refusals refuses.
use Rattle.std.specs.Prelude.{Result, Ok, Err}
use mathlib.Core.Path.{◌≡◌, refl, ap, ◌∙◌}
use Rattle.rules.specs.Answers as A
use Rattle.rules.specs.Answers.{number, values, refusal_number, refusal_values}
use Rattle.build.specs.declared.BuildRefusal.{BuildRefusal}
use Rattle.build.specs.declared.BuildRefusal.TheVariants as P
use Rattle.build.specs.Checks.{answer_of}
use Rattle.build.specs.Numbers.{number_of, values_of}

-- What build answers.
abbrev pub Built : Type 0
Built = Result (Unit {0}) BuildRefusal

record Numbering (a : Built) : Type 0 where
  pub number_is : number_of a ≡ number (answer_of a)
  pub values_are : values_of a ≡ values (answer_of a)
  pub refuses : (r : BuildRefusal) → a ≡ Err r → (why : A.Refusal) × (answer_of a ≡ A.Refused why)

numbering : (a : Built) → Numbering a
unfolding number values refusal_number refusal_values
numbering (Ok u) = record { number_is = refl; values_are = refl; refuses = λ w e. absurd (cc) }
numbering (Err (P.InvalidPartitionCount n)) = record { number_is = refl; values_are = refl; refuses = λ _ _. (_, refl) }
numbering (Err P.InvalidLookahead) = record { number_is = refl; values_are = refl; refuses = λ _ _. (_, refl) }
numbering (Err P.UnorderedProcesses) = record { number_is = refl; values_are = refl; refuses = λ _ _. (_, refl) }
numbering (Err (P.ProcessSetMismatch m u)) = record { number_is = refl; values_are = refl; refuses = λ _ _. (_, refl) }
numbering (Err P.MalformedTopology) = record { number_is = refl; values_are = refl; refuses = λ _ _. (_, refl) }
numbering (Err (P.MissingTopologyEntry p)) = record { number_is = refl; values_are = refl; refuses = λ _ _. (_, refl) }
numbering (Err (P.UnknownTopologySource p)) = record { number_is = refl; values_are = refl; refuses = λ _ _. (_, refl) }
numbering (Err (P.UnknownTopologyDestination p d)) = record { number_is = refl; values_are = refl; refuses = λ _ _. (_, refl) }
numbering (Err (P.SelfLoop p)) = record { number_is = refl; values_are = refl; refuses = λ _ _. (_, refl) }
numbering (Err (P.DuplicateNeighbor p d)) = record { number_is = refl; values_are = refl; refuses = λ _ _. (_, refl) }
numbering (Err P.InvalidEdgeLookahead) = record { number_is = refl; values_are = refl; refuses = λ _ _. (_, refl) }

module _ (a : Built) where
  module _ (b : A.Answer) (e : answer_of a ≡ b) where
    pub numbered : number_of a ≡ number b
    numbered = (numbering a).number_is ∙ ap number e

    pub valued : values_of a ≡ values b
    valued = (numbering a).values_are ∙ ap values e

  pub refusing : {C : Type 0} (r : BuildRefusal) → a ≡ Err r → ((why : A.Refusal) → answer_of a ≡ A.Refused why → C) → C
  refusing r e f = let w = (numbering a).refuses r e in f w.0 w.1
