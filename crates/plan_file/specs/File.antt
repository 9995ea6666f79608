-- A plan file: its contents, then "zero bits to the byte's end"; and 37 and 38.
use Rattle.std.specs.Prelude.{ℕ, ◌-◌, ◌/◌, ◌%◌, Bool, List, ◌++◌, ltb, eqb, length}
use Rattle.bits.specs.Bits.{bits_of, value_of}
use Rattle.bits.specs.Bytes.{stream, pack}
use Rattle.rules.specs.Base.{if◌then◌otherwise◌}
use Rattle.plan_file.specs.Format.{Got, Got.short, Got.got}
use Rattle.plan_file.specs.Plan.{Plan}
use Rattle.plan_file.specs.Grammar.{plan}

-- What a file says: its contents, or the number that refuses it.
pub data Answer : Type 0 where
  refused : ℕ → Answer
  contents : Plan → Answer

-- The number that is returned: 0 for contents.
abbrev pub number_of : Answer → ℕ
number_of (refused k) = k
number_of (contents p) = 0

-- "37 file too short, bytes left over or a set padding bit": behind the contents stand fewer than eight bits, all zero.
unfoldable pub ended : Got Plan → Answer
ended short = refused 37
ended (got p r) = if ltb (length r) 8 then (if eqb (value_of r) 0 then contents p otherwise refused 37) otherwise refused 37

-- "38 file above 16,384 bytes, checked first"
unfoldable pub decode : List ℕ → Answer
decode s = if ltb 16384 (length s) then refused 38 otherwise ended (plan.get (stream s))

-- The bits of a plan with zero bits to the byte's end, and its file.
unfoldable pub padding : ℕ → ℕ
padding n = (8 - n % 8) % 8

unfoldable pub padded : Plan → List Bool
padded p = plan.put p ++ bits_of (padding (length (plan.put p))) 0

unfoldable pub encode : Plan → List ℕ
encode p = pack (length (padded p) / 8) (padded p)
