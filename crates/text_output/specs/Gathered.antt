-- Text gathered in a buffer.
use Rattle.std.specs.Prelude.{◌≡◌, List, ◌++◌, ◌∷◌, ℕ, ◌+◌, ◌≤◌, length, take}
use Rattle.io.specs.Digits.{last_digits, IsDigitCount}

-- A text put behind the first `at` bytes: r are in use then. Where it does not fit, the buffer is written out, and no more is said than that
-- what is in use lies within it.
pub record Puts (before : List ℕ) (at : ℕ) (text after : List ℕ) (r : ℕ) : Type 0 where
  pub same : length after ≡ length before
  pub within : r ≤ length after
  pub gathered : at + length text ≤ length before → (r ≡ at + length text) × (take r after ≡ take at before ++ text)

-- A number put there in this base, with the fewest digits that hold it.
pub record PutsNumber (base n : ℕ) (before : List ℕ) (at : ℕ) (after : List ℕ) (r : ℕ) : Type 0 where
  pub count : ℕ
  pub fewest : IsDigitCount base 1 n count
  pub puts : Puts before at (last_digits base count n) after r

-- The same behind a byte that separates it from what is there.
pub record PutsNext (separator base n : ℕ) (before : List ℕ) (at : ℕ) (after : List ℕ) (r : ℕ) : Type 0 where
  pub count : ℕ
  pub fewest : IsDigitCount base 1 n count
  pub puts : Puts before at (separator ∷ last_digits base count n) after r
