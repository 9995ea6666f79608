-- The history of a list of calls is made of what carrying the list out gives, call by call.
use mathlib.Core.Path.{◌≡◌, refl}
use mathlib.Core.List.{List, [], ◌∷◌}
use Rattle.rules.specs.Rows.{Out}
use Rattle.rules.specs.Calls.{Call, rule, execute}
use Rattle.rules.specs.History.{History, append_call, run_calls}

-- The history y, with the calls and what each gave.
unfoldable pub logged : History → List Call → List Out → History
logged y [] os = y
logged y (k ∷ ks) [] = y
logged y (k ∷ ks) (o ∷ os) = logged (append_call y k o) ks os

pub told : (y : History) (ks : List Call) → run_calls y ks ≡ logged y ks (execute y.now y.counters ks)
unfolding run_calls execute logged
told y [] = refl
told y (k ∷ ks) = told (append_call y k (rule y.now y.counters k)) ks
