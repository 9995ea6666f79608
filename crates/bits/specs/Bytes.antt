-- Bytes as bits, "most significant bit first", and back.
use Rattle.std.specs.Prelude.{ℕ, zero, suc, ◌<◌, Bool, List, [], ◌∷◌, ◌++◌, take, drop}
use Rattle.bits.specs.Bits.{bits_of, value_of}

-- All bits of a file.
unfoldable pub stream : List ℕ → List Bool
stream [] = []
stream (x ∷ xs) = bits_of 8 x ++ stream xs

-- n bytes of bits.
unfoldable pub pack : ℕ → List Bool → List ℕ
pack zero b = []
pack (suc n) b = value_of (take 8 b) ∷ pack n (drop 8 b)

-- Each is a byte.
abbrev pub Bytes : List ℕ → Type 0
Bytes [] = Unit {0}
Bytes (x ∷ xs) = (x < 256) × Bytes xs
