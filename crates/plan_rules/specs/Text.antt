-- Numbers as bytes.
use Rattle.std.specs.Prelude.{List, [], ◌∷◌, ◌++◌, ℕ, zero, suc, ◌+◌, ◌/◌, ◌%◌, ltb}
use Rattle.rules.specs.Base.{if◌then◌otherwise◌}

-- Decimal, without leading zeros: at most k + 1 digits. `Texts` proves that n reads back from `decimal n`, so that n + 1 are enough.
unfoldable pub digits : ℕ → ℕ → List ℕ
digits zero n = (48 + n) ∷ []
digits (suc k) n = let more = digits k (n / 10) ++ ((48 + n % 10) ∷ []) in if ltb n 10 then (48 + n) ∷ [] otherwise more

unfoldable pub decimal : ℕ → List ℕ
decimal n = digits n n

-- "lower-case hexadecimal digits", w of them.
unfoldable pub nibble : ℕ → ℕ
nibble d = if ltb d 10 then 48 + d otherwise 87 + d

unfoldable pub hexadecimal : ℕ → ℕ → List ℕ
hexadecimal zero n = []
hexadecimal (suc w) n = hexadecimal w (n / 16) ++ (nibble (n % 16) ∷ [])

abbrev pub space : ℕ
space = 32

abbrev pub feed : ℕ
feed = 10
