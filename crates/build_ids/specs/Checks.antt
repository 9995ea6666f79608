-- What each check answers, in the words of rules/Build.
use Rattle.std.specs.Prelude.{◌≡◌, Bool, true, false, not, List, [], ◌∷◌, ℕ, ◌≤◌, ltb, eqb, Option, Some, None}
use Rattle.rules.specs.Base.{if◌then◌otherwise◌, Maybe, none, some, up_to, any, member, rising}
use Rattle.rules.specs.Build.{missing, unexpected, least_without_row}
use Rattle.types.specs.declared.LpId.{LpId}
use Rattle.types.specs.Value.{lp_id_of}
use Rattle.build_ids.specs.declared.IdMismatch.{IdMismatch}

-- p is the first of the list.
abbrev pub starts_with : ℕ → List ℕ → Bool
starts_with p [] = false
starts_with p (x ∷ xs) = eqb x p

-- What 4 and 6 are asked of: at most 64 processes, and a list that passed 3 or 5.
pub record RisingIds (n : ℕ) (xs : List ℕ) : Type 0 where
  pub few : n ≤ 64
  pub rise : rising ltb xs ≡ true

-- 4
unfoldable pub checked_ids : ℕ → List ℕ → IdMismatch
checked_ids n ids = record { missing = missing ids (up_to n); unexpected = unexpected n ids }

-- 6: of the processes ps, the least that has no row, if there is one.
unfoldable pub missing_row_in : List ℕ → List ℕ → Maybe ℕ
missing_row_in sources ps = if any (λ p. not (member p sources)) ps then some (least_without_row sources ps) otherwise none

unfoldable pub missing_row : ℕ → List ℕ → Maybe ℕ
missing_row n sources = missing_row_in sources (up_to n)

abbrev pub missing_row_of : Option LpId → Maybe ℕ
missing_row_of (Some p) = some (lp_id_of p)
missing_row_of None = none
