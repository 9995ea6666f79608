-- A chain of tests, each answered in turn.
use mathlib.Core.Path.{◌≡◌, sym, ap, ◌∙◌}
use mathlib.Core.Bool.{Bool, true, false, not, or-true}
use mathlib.Core.List.{List, [], ◌∷◌}
use Rattle.rules.specs.Base.{any, any_of}

-- The first test holds; or one behind it does; or it does not, and those behind it decide; or it is the last.
pub stops : (x : Bool) (ts : List Bool) → x ≡ true → true ≡ any_of (x ∷ ts)
unfolding any_of any
stops x ts e = rw e

pub later : (x : Bool) (ts : List Bool) → true ≡ any_of ts → true ≡ any_of (x ∷ ts)
unfolding any_of any
later x ts e = rw (← e) (sym (or-true x))

pub goes_on : (x b : Bool) (ts : List Bool) → x ≡ false → b ≡ any_of ts → b ≡ any_of (x ∷ ts)
unfolding any_of any
goes_on x b ts e f = rw e f

pub ends : (x b : Bool) → b ≡ x → b ≡ any_of (x ∷ [])
unfolding any_of any
ends true b e = e
ends false b e = e

-- r is what a call answered to the test x.
pub answered : (r x b : Bool) → r ≡ x → r ≡ b → x ≡ b
answered r x b e f = sym e ∙ f

pub inverted : (r x : Bool) → r ≡ x → not r ≡ not x
inverted r x e = ap not e
