-- What a checked file's parts are.
use Rattle.std.specs.Prelude.{ℕ, ◌≡◌, Bool, List, Result, Ok, Err, length}
use Rattle.bits.specs.Bytes.{stream}
use Rattle.plan_file.specs.Plan.{Plan}
use Rattle.plan_file.specs.Grammar.{edge, message, reply}
use Rattle.plan_file.specs.File.{Answer.refused, Answer.contents, decode, number_of}
use Rattle.plan_file.specs.Standing.{Standing}
use Rattle.plan_file.specs.declared.Parts.{Parts}
use Rattle.plan_file.specs.declared.FileRefusal.{FileRefusal}
use Rattle.plan_file.specs.declared.FileRefusal.TheVariants.{Malformed, TooLong}

-- The counts of the plan p's lists, and where they stand in the bits b.
pub record PartsOf (b : List Bool) (p : Plan) (r : Parts) : Type 0 where
  pub edges : r.edges ≡ length p.edges
  pub initial : r.initial ≡ length p.initial
  pub replies : r.replies ≡ length p.replies
  pub edges_stand : Standing edge b 337 p.edges
  pub initial_stand : Standing message b r.initial_at p.initial
  pub replies_stand : Standing reply b r.replies_at p.replies

-- "38 file above 16,384 bytes, checked first; 37 file too short, bytes left over or a set padding bit"
abbrev pub refusal_number : FileRefusal → ℕ
refusal_number Malformed = 37
refusal_number TooLong = 38

-- 0 where the parts were found.
abbrev pub check_number : Result Parts FileRefusal → ℕ
check_number (Ok parts) = 0
check_number (Err refusal) = refusal_number refusal

-- "New numbers .. come back with nothing beside them."
abbrev pub RefusedBy : ℕ → Result Parts FileRefusal → Type 0
RefusedBy k (Ok parts) = ⊥
RefusedBy k (Err refusal) = refusal_number refusal ≡ k

abbrev pub Found : List Bool → Plan → Result Parts FileRefusal → Type 0
Found b p (Ok parts) = PartsOf b p parts
Found b p (Err refusal) = ⊥

-- The file s got the number that it has, and its parts were found.
pub record Checks (s : List ℕ) (r : Result Parts FileRefusal) : Type 0 where
  pub number : check_number r ≡ number_of (decode s)
  pub refuses : (k : ℕ) → decode s ≡ refused k → RefusedBy k r
  pub parts : (p : Plan) → decode s ≡ contents p → Found (stream s) p r
