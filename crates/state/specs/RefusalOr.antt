-- What the rows of a call answer before its work is done.
use Rattle.std.specs.Prelude.{Result, MatchResult}
use Rattle.state.specs.declared.Refusal.{Refusal}

-- Where no row refuses, A holds; else B of the refusal does.
abbrev pub RefusalOr : Result (Unit {0}) Refusal → Type 0 → (Refusal → Type 0) → Type 0
RefusalOr r A B = MatchResult r (λ _. A) B
