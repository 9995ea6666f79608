-- "The same reading is exported to the C host over two byte slices, plan and listing."
use Rattle.std.specs.Prelude.{List, [], ◌++◌, ℕ, ◌-◌, leb, length, replicate}
use Rattle.rules.specs.Base.{if◌then◌otherwise◌}
use Rattle.plan_file.specs.File
use Rattle.plan_file.specs.File.{decode}
use Rattle.plan_rules.specs.Listing.{Rehearsal, listed, refused, rehearsed}

-- What is returned, and the listing's slice as it is left.
pub record Exported : Type 0 where
  pub number : ℕ
  pub slice : List ℕ

-- "0 if a listing was written, with zeros behind it"
abbrev pub written : List ℕ → List ℕ → Exported
written l lent = record { number = 0; slice = l ++ replicate (length lent - length l) 0 }

-- "39 fills the slice with zeros"
abbrev pub cleared : ℕ → List ℕ → Exported
cleared k lent = record { number = k; slice = replicate (length lent) 0 }

-- "37 and 38 write nothing"
abbrev pub untouched : ℕ → List ℕ → Exported
untouched k lent = record { number = k; slice = lent }

-- "or listing longer than the host's slice"
unfoldable pub handed_over : Rehearsal → List ℕ → Exported
handed_over (refused k) lent = cleared k lent
handed_over (listed l) lent = if leb (length l) (length lent) then written l lent otherwise cleared 39 lent

unfoldable pub exported_of : File.Answer → List ℕ → Exported
exported_of (File.refused k) lent = untouched k lent
exported_of (File.contents p) lent = handed_over (rehearsed p) lent

-- Of the file's bytes and the host's slice.
unfoldable pub exported : List ℕ → List ℕ → Exported
exported file lent = exported_of (decode file) lent

-- "A program prints it from standard input, and nothing on 37 to 39".
unfoldable pub shown : Rehearsal → List ℕ
shown (refused k) = []
shown (listed l) = l

unfoldable pub printed_of : File.Answer → List ℕ
printed_of (File.refused k) = []
printed_of (File.contents p) = shown (rehearsed p)

unfoldable pub printed : List ℕ → List ℕ
printed file = printed_of (decode file)
