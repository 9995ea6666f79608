-- What stands at a place of a file. A place is counted in bits from the file's start.
use Rattle.std.specs.Prelude.{ℕ, ◌≤◌, ◌≡◌, Bool, List, length, drop}
use Rattle.plan_file.specs.Format.{Got, Got.short, Got.got, Format, gets}

-- At the place `at` of the bits b stand the values xs of the format f, and `behind` are the bits behind them.
pub record Standing {A : Type 0} (f : Format A) (b : List Bool) (at : ℕ) (xs : List A) : Type 0 where
  pub behind : List Bool
  pub reads : gets f (length xs) (drop at b) ≡ got xs behind
  pub inside : at ≤ length b

-- One value x stands there, and `behind` are the bits behind it.
abbrev pub StandsAt : {A : Type 0} → Format A → List Bool → ℕ → A → List Bool → Type 0
StandsAt f b at x behind = f.get (drop at b) ≡ got x behind

-- Some value stands there.
abbrev pub IsGot : {A : Type 0} → Got A → Type 0
IsGot short = ⊥
IsGot (got a r) = Unit {0}
