-- Bytes as numbers: "64-bit words, least significant byte first" (docs/CALLS.md).
use Rattle.std.specs.Prelude.{List, [], ◌∷◌, ℕ, ◌+◌, ◌*◌, take, drop}

-- The number that bytes are, the least significant first.
unfoldable pub little : List ℕ → ℕ
little [] = 0
little (b ∷ bs) = b + 256 * little bs

-- The word in the eight bytes from `at` on.
unfoldable pub word_at : List ℕ → ℕ → ℕ
word_at bytes at = little (take 8 (drop at bytes))

-- The i-th word, from 0.
abbrev pub word_of : List ℕ → ℕ → ℕ
word_of bytes i = word_at bytes (8 * i)
