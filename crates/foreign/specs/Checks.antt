-- What 11 says of a state before a call's own rows.
use Rattle.std.specs.Prelude.{◌≡◌, true, false, Result}
use Rattle.rules.specs.State.{State}
use Rattle.rules.specs.Foreign.{foreign}
use Rattle.state.specs.declared.Refusal.{Refusal}
use Rattle.state.specs.declared.Refusal.TheVariants.{ForeignState}
use Rattle.state.specs.RefusalOr.{RefusalOr}

-- It is refused exactly where it is foreign.
abbrev pub ChecksForeign : State → Result (Unit {0}) Refusal → Type 0
ChecksForeign s r = RefusalOr r (foreign s ≡ false) (λ why. (why ≡ ForeignState) × (foreign s ≡ true))
