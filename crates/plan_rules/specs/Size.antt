-- Numbers read back from their bytes, and how long a listing can get.
use Rattle.std.specs.Prelude.{◌≡◌, false, List, [], ◌∷◌, ℕ, ◌+◌, ◌*◌, ◌-◌, ◌^◌, ◌≤◌, ◌<◌, ltb, length, get_or}
use Rattle.rules.specs.Base.{if◌then◌otherwise◌}
use Rattle.rules.specs.State.{zeros}
use Rattle.rules.specs.Answers.{Accepted}
use Rattle.rules.specs.Build.{build}
use Rattle.plan_file.specs.Plan.{Plan}
use Rattle.plan_file.specs.File.{Answer.contents, decode}
use Rattle.plan_rules.specs.Setup.{setup_of, too_long}
use Rattle.plan_file.specs.Events.{event_count}
use Rattle.plan_rules.specs.Run.{ran}
use Rattle.plan_rules.specs.Text.{decimal, hexadecimal}
use Rattle.plan_rules.specs.Listing.{listed, listing, rehearsed}
use Rattle.plan_rules.specs.Export.{exported, written, printed}

-- The value of a digit, and of digits to the base b behind those whose value is a.
unfoldable pub digit_of : ℕ → ℕ
digit_of x = if ltb x 58 then x - 48 otherwise x - 87

unfoldable pub value_from : ℕ → ℕ → List ℕ → ℕ
value_from b a [] = a
value_from b a (x ∷ xs) = value_from b (a * b + digit_of x) xs

pub record Texts : Type 0 where
  pub decimal_value : (n : ℕ) → value_from 10 0 (decimal n) ≡ n
  -- No leading zero.
  pub decimal_lead : (n : ℕ) → 0 < n → 48 < get_or (decimal n) 0 0
  pub hexadecimal_value : (w n : ℕ) → n < 16 ^ w → value_from 16 0 (hexadecimal w n) ≡ n
  pub hexadecimal_length : (w n : ℕ) → length (hexadecimal w n) ≡ w

-- The listing of a run that 39 lets pass.
pub record Fits (p : Plan) : Type 0 where
  pub fits : too_long p ≡ false → event_count p ≤ 901 → length (listing (ran p)) ≤ 39 * event_count p + 55

-- A file holds at most 901 events, so 35,194 bytes are enough for every file: with such a slice 39 comes only for a run that is too long.
pub record Program (file lent : List ℕ) : Type 0 where
  pub listing : (p : Plan) → decode file ≡ contents p → (build (setup_of p) zeros).answer ≡ Accepted → too_long p ≡ false → length (listing (ran p)) ≤ 35194
  pub rehearsal : (p : Plan) (l : List ℕ) → decode file ≡ contents p → rehearsed p ≡ listed l → length l ≤ 35194
  pub short : length (printed file) ≤ 35194
  pub room : (p : Plan) (l : List ℕ) → decode file ≡ contents p → rehearsed p ≡ listed l → 35194 ≤ length lent → exported file lent ≡ written l lent
  -- What the program prints from such a slice.
  pub whole : 35194 ≤ length lent → (exported file lent).number ≡ 0 → exported file lent ≡ written (printed file) lent
  pub silent : 35194 ≤ length lent → ((exported file lent).number ≡ 0 → ⊥) → printed file ≡ []
