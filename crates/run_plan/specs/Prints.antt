-- Where a text ends that zeros stand behind.
use Rattle.std.specs.Prelude.{◌≡◌, List, ℕ, suc, ◌≤◌, length, get_or}

-- The bytes from r on are zero, and the one before them is not.
pub record EndsAt (text : List ℕ) (r : ℕ) : Type 0 where
  pub inside : r ≤ length text
  pub behind : (i : ℕ) → r ≤ i → get_or text i 0 ≡ 0
  pub last : (k : ℕ) → r ≡ suc k → get_or text k 0 ≡ 0 → ⊥
