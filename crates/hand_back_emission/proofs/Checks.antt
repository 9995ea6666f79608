-- What a check says of a table of rows, by what it says of a part.
use mathlib.Core.Path.{◌≡◌, refl, ◌∙◌}
use mathlib.Core.Bool.{true, false}
use mathlib.Core.List.{List, [], ◌∷◌, ◌++◌}
use Rattle.std.specs.Prelude.{Result, Ok, Err}
use Rattle.rules.specs.Base.{if◌then◌otherwise◌}
use Rattle.rules.specs.Answers as A
use Rattle.rules.specs.Rows.{Row, unless, Out}
use Rattle.rules.specs.HandBack.{poison_with}
use Rattle.rules.proofs.Table.{unless_append}
use Rattle.state.specs.declared.Refusal.{Refusal}
use Rattle.state.specs.View.{refusal_of}
use Rattle.hand_back_emission.specs.Checks.{ChecksRows}

-- What a check answers.
abbrev pub Verdict : Type 0
Verdict = Result (Unit {0}) Refusal

pub nothing : ChecksRows [] (Ok tt)
unfolding ChecksRows unless
nothing f d = refl

-- The first row decides.
pub struck : (r : Row) (rs : List Row) (x : Refusal) → r.test ≡ true → refusal_of x ≡ r.refusal → ChecksRows (r ∷ rs) (Err x)
unfolding ChecksRows unless if◌then◌otherwise◌
struck r rs x t e s c d = rw (t, e)

-- Two tables that decide alike.
unfoldable pub Same : List Row → List Row → Type 0
Same rs ts = (f : A.Refusal → Out) (d : Out) → unless rs f d ≡ unless ts f d

pub passed_by : (r : Row) (rs : List Row) → r.test ≡ false → Same (r ∷ rs) rs
unfolding Same unless if◌then◌otherwise◌
passed_by r rs t f d = rw t

pub checks_same : (rs ts : List Row) (v : Verdict) → Same rs ts → ChecksRows ts v → ChecksRows rs v
unfolding ChecksRows Same
checks_same rs ts (Ok _) g j = λ f d. g f d ∙ j f d
checks_same rs ts (Err x) g j = λ s c d. g (poison_with s c) d ∙ j s c d

-- A row that does not decide.
pub go_by : (r : Row) (rs : List Row) (v : Verdict) → r.test ≡ false → ChecksRows rs v → ChecksRows (r ∷ rs) v
go_by r rs v t j = checks_same (r ∷ rs) rs v (passed_by r rs t) j

-- A part in front that passed is as good as gone; one that did not decides.
pub same_behind : (rs ts : List Row) → ChecksRows rs (Ok tt) → Same (rs ++ ts) ts
unfolding ChecksRows Same
same_behind rs ts j f d = unless_append rs ts f d ∙ j f (unless ts f d)

pub checks_front : (rs ts : List Row) (x : Refusal) → ChecksRows rs (Err x) → ChecksRows (rs ++ ts) (Err x)
unfolding ChecksRows
checks_front rs ts x j s c d = unless_append rs ts (poison_with s c) d ∙ j s c (unless ts (poison_with s c) d)
