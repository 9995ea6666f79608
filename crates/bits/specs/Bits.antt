-- A number as a list of bits, most significant first, and back.
use Rattle.std.specs.Prelude.{ℕ, zero, suc, ◌+◌, ◌*◌, ◌/◌, ◌%◌, ◌^◌, Bool, true, false, List, [], ◌∷◌, eqb, length}

unfoldable pub bit : Bool → ℕ
bit true = 1
bit false = 0

unfoldable pub odd : ℕ → Bool
odd n = eqb (n % 2) 1

-- The w lowest bits of v.
unfoldable pub bits_of : ℕ → ℕ → List Bool
bits_of zero v = []
bits_of (suc w) v = odd (v / 2 ^ w) ∷ bits_of w v

-- The number that bits make.
unfoldable pub value_of : List Bool → ℕ
value_of [] = 0
value_of (b ∷ bs) = bit b * 2 ^ length bs + value_of bs
