-- The lists that build takes, made of a plan's edges: document 02, A.1. "Every process has a row, and so has any other source of an edge".
use Rattle.std.specs.Prelude.{◌≡◌, Bool, true, false, not, ◌||◌, List, [], ◌∷◌, ◌++◌, map, ℕ, zero, suc, ◌+◌, ◌≤◌, ◌<◌, leb, ltb, eqb, length, take, drop, get_or}
use Rattle.rules.specs.Base.{count, rising}
use Rattle.bits.specs.Bytes.{stream}
use Rattle.words.specs.Words.{ticks_in}
use Rattle.plan_file.specs.Plan.{PlanEdge, Plan}
use Rattle.plan_file.specs.Format.{gets, Got.got}
use Rattle.plan_file.specs.Grammar.{edge}
use Rattle.plan_rules.specs.Setup.{TopologyRow, setup_of}

-- The edges of a file, which stand at the bit 337: their sources and destinations are the first k numbers of two lists.
pub record ReadsEdges (s : List ℕ) (k : ℕ) (sources destinations : List ℕ) : Type 0 where
  pub read : (es : List PlanEdge) (behind : List Bool) → gets edge k (drop 337 (stream s)) ≡ got es behind
      → (take k sources ≡ map (λ (e : PlanEdge). e.source) es) × (take k destinations ≡ map (λ (e : PlanEdge). e.destination) es)
  pub below : (i : ℕ) → get_or (take k sources) i 0 < 64

-- Their lookaheads are the first k of a table of two words each.
pub record ReadsLookaheads (s : List ℕ) (k : ℕ) (lookaheads : List ℕ) : Type 0 where
  pub read : (es : List PlanEdge) (behind : List Bool) → gets edge k (drop 337 (stream s)) ≡ got es behind → ticks_in k lookaheads ≡ map (λ (e : PlanEdge). e.lookahead) es

-- What rows are made of: the sources of edges, six bits wide, which never fall; and where they go.
pub record Rowable (n : ℕ) (from sources counts : List ℕ) : Type 0 where
  pub few : n ≤ 64
  pub standing : rising leb from ≡ true
  pub below : (i : ℕ) → get_or from i 0 < 64
  pub sources_room : 64 ≤ length sources
  pub counts_room : 64 ≤ length counts

-- The first r of two lists are the rows of every plan with n processes and these sources.
pub record MakesRows (n : ℕ) (from sources counts : List ℕ) (r : ℕ) : Type 0 where
  pub few : r ≤ 64
  pub of_plan : (p : Plan) → p.n ≡ n → map (λ (e : PlanEdge). e.source) p.edges ≡ from → (take r sources ≡ (setup_of p).sources) × (take r counts ≡ (setup_of p).counts)

-- How many edges each source has, in a table of 64.
pub record Tallies (from table : List ℕ) : Type 0 where
  pub size : length table ≡ 64
  pub counts : (q : ℕ) → q < 64 → get_or table q 0 ≡ count (eqb q) from

-- Whether q has a row among n processes where it has k edges; and its row, or none.
unfoldable pub has_row : ℕ → ℕ → ℕ → Bool
has_row n q k = ltb q n || not (eqb k 0)

abbrev pub row_if : Bool → ℕ → ℕ → List TopologyRow
row_if true q k = record { source = q; count = k } ∷ []
row_if false q k = []

-- Rows for the k sources from lo on, where `keep` says so, each with its count; and those of a table.
unfoldable pub spread : (ℕ → Bool) → (ℕ → ℕ) → ℕ → ℕ → List TopologyRow
spread keep f lo zero = []
spread keep f lo (suc k) = row_if (keep lo) lo (f lo) ++ spread keep f (suc lo) k

abbrev pub table_rows : ℕ → List ℕ → ℕ → List TopologyRow
table_rows n table k = spread (λ q. has_row n q (get_or table q 0)) (λ q. get_or table q 0) 0 k

-- Rows written behind the first r: there are k of them then.
pub record PutsRows (sources counts : List ℕ) (r : ℕ) (rows : List TopologyRow) (sources' counts' : List ℕ) (k : ℕ) : Type 0 where
  pub same_sources : length sources' ≡ length sources
  pub same_counts : length counts' ≡ length counts
  pub many : k ≡ r + length rows
  pub new_sources : take k sources' ≡ take r sources ++ map (λ (x : TopologyRow). x.source) rows
  pub new_counts : take k counts' ≡ take r counts ++ map (λ (x : TopologyRow). x.count) rows
