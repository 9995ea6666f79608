-- Where reading ends, whatever it read: what the functions below `check_file` say to each other.
use Rattle.std.specs.Prelude.{ℕ, ◌+◌, ◌≤◌, ◌≡◌, Bool, List, Option, Some, None, length, drop}
use Rattle.plan_file.specs.Format.{Got, Got.short, Got.got, next, Format, field, gets}
use Rattle.plan_file.specs.Plan.{Plan}
use Rattle.plan_file.specs.Grammar.{plan}
use Rattle.plan_file.specs.Checks.{PartsOf}
use Rattle.plan_file.specs.declared.Parts.{Parts}
use Rattle.plan_file.specs.declared.Listed.{Listed}

-- The bits behind what was read.
unfoldable pub rest : {A : Type 0} → Got A → Got (Unit {0})
rest short = short
rest (got a r) = got tt r

-- w bits passed over.
unfoldable pub skipped : ℕ → List Bool → Got (Unit {0})
skipped w b = rest ((field w).get b)

abbrev pub placed : List Bool → Option ℕ → Got (Unit {0})
placed b (Some p) = got tt (drop p b)
placed b None = short

abbrev pub Inside : List Bool → Option ℕ → Type 0
Inside b (Some p) = p ≤ length b
Inside b None = Unit {0}

-- The place r is behind what x read.
pub record Walked (b : List Bool) (x : Got (Unit {0})) (r : Option ℕ) : Type 0 where
  pub ends : placed b r ≡ x
  pub inside : Inside b r

-- A list with its count at the place `at`, where so many values are read as `walk` says: the first stands at the place first, and next is behind the
-- last.
pub record CountedBy (walk : ℕ → List Bool → Got (Unit {0})) (b : List Bool) (at : ℕ) (r : Listed) : Type 0 where
  pub count : (field 10).get (drop at b) ≡ got r.count (drop r.first b)
  pub starts : r.first ≡ at + 10
  pub ends : walk r.count (drop r.first b) ≡ got tt (drop r.next b)
  pub first_inside : r.first ≤ length b
  pub inside : r.next ≤ length b

abbrev pub CountsBy : (ℕ → List Bool → Got (Unit {0})) → List Bool → ℕ → Option Listed → Type 0
CountsBy walk b at (Some r) = CountedBy walk b at r
CountsBy walk b at None = next ((field 10).get (drop at b)) walk ≡ short

-- A list of values of the format f.
abbrev pub CountedList : {A : Type 0} → Format A → List Bool → ℕ → Listed → Type 0
CountedList f = CountedBy (λ n b. rest (gets f n b))

abbrev pub Counts : {A : Type 0} → Format A → List Bool → ℕ → Option Listed → Type 0
Counts f = CountsBy (λ n b. rest (gets f n b))

-- The whole contents.
pub record WalkedPlan (b : List Bool) (parts : Parts) (end : ℕ) : Type 0 where
  pub ends : rest (plan.get b) ≡ got tt (drop end b)
  pub inside : end ≤ length b
  pub lists : (p : Plan) (r : List Bool) → plan.get b ≡ got p r → PartsOf b p parts

abbrev pub Walks : List Bool → Option (Parts × ℕ) → Type 0
Walks b (Some p) = WalkedPlan b p.0 p.1
Walks b None = rest (plan.get b) ≡ short
