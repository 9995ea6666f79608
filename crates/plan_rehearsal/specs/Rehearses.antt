-- What a plan file that 37 and 38 let pass is rehearsed to.
use Rattle.std.specs.Prelude.{◌≡◌, Bool, true, false, ◌||◌, List, ℕ, ltb, eqb}
use Rattle.bits.specs.Bytes.{stream}
use Rattle.rules.specs.Base.{if◌then◌otherwise◌}
use Rattle.plan_file.specs.File.{Answer.contents, decode}
use Rattle.plan_file.specs.Checks.{PartsOf}
use Rattle.plan_file.specs.declared.Parts.{Parts}
use Rattle.plan_rules.specs.Listing.{Rehearsal, listed, end_line, rehearsed}
use Rattle.plan_rules.specs.Export.{Exported, handed_over}
use Rattle.plan_round.specs.Reached.{plan_of}

-- The file's contents, and where its parts stand.
pub record Checked (s : List ℕ) (parts : Parts) : Type 0 where
  pub read : decode s ≡ contents (plan_of s)
  pub parts_of : PartsOf (stream s) (plan_of s) parts

-- What is returned and left in the slice is what that rehearsal hands over.
abbrev pub HandsOver : Rehearsal → List ℕ → List ℕ → ℕ → Type 0
HandsOver x old new r = ◌≡◌ {A = Exported} (record { number = r; slice = new }) (handed_over x old)

abbrev pub Rehearses : List ℕ → List ℕ → List ℕ → ℕ → Type 0
Rehearses s = HandsOver (rehearsed (plan_of s))

abbrev pub Refuses : ℕ → List ℕ → List ℕ → ℕ → Type 0
Refuses k = HandsOver (listed (end_line k 0 0 0))

-- "0 if a listing was written ..", "39 .. listing longer than the host's slice"
abbrev pub number_for : Bool → ℕ
number_for true = 0
number_for false = 39

-- 1, 2, and 5 for more than 512 edges; 0 where none of these.
unfoldable pub early_number : ℕ → ℕ → ℕ → ℕ
early_number n L edges = if eqb n 0 || ltb 64 n then 1 otherwise if eqb L 0 then 2 otherwise if ltb 512 edges then 5 otherwise 0
