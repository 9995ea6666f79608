-- Edges as a table with a row of 64 entries for each event in hand, so that the lookahead of an emission's edge is one lookup.
use Rattle.std.specs.Prelude.{◌≡◌, false, List, ◌∷◌, ℕ, zero, suc, ◌+◌, ◌-◌, ◌*◌, ◌≤◌, ◌<◌, ltb, eqb, length, get_or}
use Rattle.records.specs.Records.{edge_at, edges_of}
use Rattle.rules.specs.Base.{if◌then◌otherwise◌, any}
use Rattle.rules.specs.State.{Edge}
use Rattle.rules.specs.Pending.{lookahead_along}
use Rattle.rules.specs.Foreign.{unknown_id_edge}

-- look tells the lookahead of the edge from each process that has a place in T to any process, 0 where there is none.
unfoldable pub Looks : List Edge → List ℕ → (ℕ → ℕ → ℕ) → Type 0
Looks es T look = (a b : ℕ) → (get_or T a 0 ≡ 0 → ⊥) → look a b ≡ lookahead_along es a b

-- An entry is one above the index of an edge, or 0 for none.
unfoldable pub entry_lookahead : List ℕ → ℕ → ℕ
entry_lookahead E zero = 0
entry_lookahead E (suc i) = (edge_at E i).lookahead

-- Where the entry of the edge from a to b stands: the row of a is that of its place in T.
abbrev pub entry_place : List ℕ → ℕ → ℕ → ℕ
entry_place T a b = 64 * (get_or T a 0 - 1) + b

-- The lookahead from a to b by the table t of the edges E.
unfoldable pub look_in_table : List ℕ → List ℕ → List ℕ → ℕ → ℕ → ℕ
look_in_table E t T a b =
    if eqb (get_or T a 0) 0 then 0
    otherwise if ltb b 64 then entry_lookahead E (get_or t (entry_place T a b) 0)
    otherwise 0

-- The places T have rows in a table of n entries, each process its own.
pub record Rows (T : List ℕ) (n : ℕ) : Type 0 where
  pub place_words : length T ≡ 64
  pub within : (p : ℕ) → 64 * get_or T p 0 ≤ n
  pub apart : (p q : ℕ) → (get_or T p 0 ≡ 0 → ⊥) → get_or T p 0 ≡ get_or T q 0 → p ≡ q

-- Of the edge e more, look' tells too.
unfoldable pub LooksMore : Edge → List ℕ → (ℕ → ℕ → ℕ) → (ℕ → ℕ → ℕ) → Type 0
LooksMore e T look look' = (es : List Edge) → Looks es T look → Looks (e ∷ es) T look'

-- From the table t to u, edge i of E is put in.
pub record Puts (E : List ℕ) (i : ℕ) (T t u : List ℕ) : Type 0 where
  pub looks : LooksMore (edge_at E i) T (look_in_table E t T) (look_in_table E u T)
  pub entries : (n : ℕ) → i < n → ((j : ℕ) → get_or t j 0 ≤ n) → (j : ℕ) → get_or u j 0 ≤ n

-- What the table of the first n edges of E is made of: their ids are known, and its entries are 0.
pub record CanFind (E : List ℕ) (n : ℕ) (T t : List ℕ) : Type 0 where
  pub edge_words : 6 * n ≤ length E
  pub few : n ≤ 512
  pub known : any (unknown_id_edge 64) (edges_of n E) ≡ false
  pub rows : Rows T (length t)
  pub empty : (j : ℕ) → get_or t j 0 ≡ 0

pub record Found (E : List ℕ) (n : ℕ) (T t : List ℕ) : Type 0 where
  pub looks : Looks (edges_of n E) T (look_in_table E t T)
  pub entries : (j : ℕ) → get_or t j 0 ≤ n

-- What a lookup asks: its row and the words of the edge are there.
pub record CanLook (E t T : List ℕ) : Type 0 where
  pub rows : Rows T (length t)
  pub entries : (j : ℕ) → 6 * get_or t j 0 ≤ length E
