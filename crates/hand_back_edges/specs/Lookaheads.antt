-- Edges as a table of lookaheads, two words for each pair of 64 processes.
use Rattle.std.specs.Prelude.{◌≡◌, false, List, ℕ, ◌+◌, ◌*◌, ◌≤◌, ltb, length, get_or}
use Rattle.words.specs.Words.{tick_of}
use Rattle.records.specs.Records.{edges_of}
use Rattle.rules.specs.Base.{if◌then◌otherwise◌, any}
use Rattle.rules.specs.State.{Edge}
use Rattle.rules.specs.Foreign.{unknown_id_edge}
use Rattle.hand_back_edges.specs.Looks.{Looks, LooksMore}

-- The lookahead from a to b by the table w.
unfoldable pub lookahead_in : List ℕ → ℕ → ℕ → ℕ
lookahead_in w a b = if ltb b 64 then tick_of w (64 * a + b) otherwise 0

-- From the table w to u, the edge e is put in, whichever processes have places.
unfoldable pub PutsLookahead : Edge → List ℕ → List ℕ → Type 0
PutsLookahead e w u = (T : List ℕ) → LooksMore e T (lookahead_in w) (lookahead_in u)

-- What the table of the first n edges of E is made of: their ids are known, and its words are 0.
pub record CanFindLookaheads (E : List ℕ) (n : ℕ) (w : List ℕ) : Type 0 where
  pub edge_words : 6 * n ≤ length E
  pub known : any (unknown_id_edge 64) (edges_of n E) ≡ false
  pub table_words : 8192 ≤ length w
  pub empty : (j : ℕ) → get_or w j 0 ≡ 0

unfoldable pub FoundLookaheads : List Edge → List ℕ → Type 0
FoundLookaheads es w = (T : List ℕ) → Looks es T (lookahead_in w)
