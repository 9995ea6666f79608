-- Edges as 64 words of bits, so that whether a route leads from a to b is one lookup; and what one edge more does to them.
use Rattle.std.specs.Prelude.{◌≡◌, Bool, false, List, ◌∷◌, ℕ, ◌/◌, ◌%◌, ◌^◌, eqb, get_or}
use Rattle.rules.specs.Base.{any}
use Rattle.rules.specs.State.{Edge}
use Rattle.rules.specs.Pending.{joins, route}

-- Bit d of a word, and of word s.
unfoldable pub bit : ℕ → ℕ → Bool
bit x d = eqb (x / 2 ^ d % 2) 1

abbrev pub seen_in : List ℕ → ℕ → ℕ → Bool
seen_in w s d = bit (get_or w s 0) d

-- Bit b of word a says whether one of the edges leads from a to b. Past its end the table reads 0: no edge leads from there.
unfoldable pub Routes : List Edge → List ℕ → Type 0
Routes es w = (a b : ℕ) → seen_in w a b ≡ any (joins a b) es

-- The answer for a and b, for any edges that the table is of.
unfoldable pub HasRoute : List ℕ → ℕ → ℕ → Bool → Type 0
HasRoute w a b r = (es : List Edge) → Routes es w → r ≡ route es a b

-- With the edge e more, the table is u.
unfoldable pub Marked : Edge → List ℕ → List ℕ → Type 0
Marked e w u = (es : List Edge) → Routes es w → Routes (e ∷ es) u

-- The answer for an edge when those in w were seen: it leads to its own source, or its pair was seen. If it is no, u has the edge too.
pub record SeenOrMarked (e : Edge) (w u : List ℕ) (r : Bool) : Type 0 where
  pub bad : HasRoute w e.source e.destination r
  pub marked : r ≡ false → Marked e w u
