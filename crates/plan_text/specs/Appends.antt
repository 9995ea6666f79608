-- Text in lent bytes. A place past their end says that the text did not fit; it stays so, and what was there before stays too.
use Rattle.std.specs.Prelude.{◌≡◌, Bool, true, false, List, [], ◌++◌, ℕ, ◌+◌, ◌-◌, ◌≤◌, ◌<◌, length, take}
use Rattle.rules.specs.State.{Event}
use Rattle.words.specs.Words.{zeroes}

-- From old to new, the text was written behind the first `at` bytes, and r is where it ends.
pub record Appends (old : List ℕ) (at : ℕ) (text new : List ℕ) (r : ℕ) : Type 0 where
  pub same : length new ≡ length old
  pub kept : take at new ≡ take at old
  pub fits : at + length text ≤ length old → (r ≡ at + length text) × (take r new ≡ take at old ++ text)
  pub full : length old < at + length text → length old < r

-- An event of which a line says all: process, tick and source.
abbrev pub shown : ℕ → ℕ → ℕ → Event
shown process tick source = record { source = source; destination = process; tick = tick; sequence = 0; payload = [] }

-- The bytes start with the text, whose end is `at`; or it is longer than they are.
pub record Listed (out : List ℕ) (at : ℕ) (text : List ℕ) : Type 0 where
  pub fits : length text ≤ length out → (at ≡ length text) × (take at out ≡ text)
  pub full : length out < length text → length out < at

-- From old to new, what stands from `at` on became zeros; all of it where `at` is past the end. r is whether it is not.
pub record Finishes (old : List ℕ) (at : ℕ) (new : List ℕ) (r : Bool) : Type 0 where
  pub fits : at ≤ length old → (r ≡ true) × (new ≡ take at old ++ zeroes (length old - at))
  pub full : length old < at → (r ≡ false) × (new ≡ zeroes (length old))

-- "It returns 0 if a listing was written, with zeros behind it"; "listing longer than the host's slice": 39, which "fills the slice with zeros". Of a slice of so many
-- bytes and a text, what is in it then, and whether the text fits.
pub record Holds (room : ℕ) (text new : List ℕ) (r : Bool) : Type 0 where
  pub fits : length text ≤ room → (r ≡ true) × (new ≡ text ++ zeroes (room - length text))
  pub full : room < length text → (r ≡ false) × (new ≡ zeroes room)
