-- What it is that a function asks nothing of its caller.
use Rattle.std.specs.Prelude.{◌≡◌}
use seplogic.Ra.Ura.{Ura}
use base.Logic.{emp}
use contract.Lifetimes.{Lfts}
use denote.Triple.Entry.{Args}
use denote.Triple.Clauses.{Ended, Clauses}

-- Whatever it is called with, its `requires` is what a function without one has.
abbrev pub AsksNothing : {M : Type 1} (𝓤 : Ura M) (T : Ended) → Clauses 𝓤 T → Type 2
AsksNothing 𝓤 T c = (κs : Lfts T.signature.lifetimes) (a : Args T.signature κs) (g : (c κs a).ghost) → (c κs a).requires g ≡ emp 𝓤
