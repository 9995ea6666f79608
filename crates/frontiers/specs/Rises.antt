-- What rises in an advance, in the words of the rules: edge bounds, by a table of input frontiers.
use Rattle.std.specs.Prelude.{◌≡◌, ◌≢◌, List, ℕ, ◌*◌, ◌≤◌, ◌<◌, max, ltb, length}
use Rattle.records.specs.Records.{edge_at, edges_of}
use Rattle.rules.specs.Base.{if◌then◌otherwise◌}
use Rattle.rules.specs.State.{Edge, with_bound, State}
use Rattle.rules.specs.InPlace.{with_edges, raise_bounds}
use Rattle.types.specs.Value.{ticks_of, duration_of}
use Rattle.words.specs.Words.{tick_of, inbounds_of}
use Rattle.inbound.specs.Inbound.{RecordsInbound, Destinations}
use Rattle.frontiers.specs.Tables.{FirstTicks, capped}
use Rattle.frontiers.specs.declared.SourceBound.{SourceBound}

-- What b says of its source, one of 64 processes, is what the input frontier in the table and b's lookahead make of the bounds from it.
unfoldable pub BoundOf : ℕ → List ℕ → SourceBound → Type 0
BoundOf H table b = b.source < 64 → ticks_of b.bound ≡ capped H (duration_of b.lookahead) (tick_of table b.source)

-- r is about source and lookahead of edge i of w, and right where `last` is.
pub record FindsBound (i H : ℕ) (table w : List ℕ) (last r : SourceBound) : Type 0 where
  pub source : r.source ≡ (edge_at w i).source
  pub lookahead : duration_of r.lookahead ≡ (edge_at w i).lookahead
  pub bound : BoundOf H table last → BoundOf H table r

-- An edge with its bound raised to t.
abbrev pub raised_to : ℕ → Edge → Edge
raised_to t e = with_bound e (max e.bound t)

-- From w to u, the bound of edge i rises to t, and the other edges stay; r is 1 if it rose.
pub record RaisedEdge (i t : ℕ) (w u : List ℕ) (r : ℕ) : Type 0 where
  pub here : edge_at u i ≡ raised_to t (edge_at w i)
  pub others : (k : ℕ) → k ≢ i → edge_at u k ≡ edge_at w k
  pub counted : r ≡ (if ltb (edge_at w i).bound (edge_at u i).bound then 1 otherwise 0)

-- The source of each of the first m edges is one of n processes.
unfoldable pub Sources : ℕ → ℕ → List ℕ → Type 0
Sources n m w = (i : ℕ) → i < m → (edge_at w i).source < n

-- What the pass that raises the bounds of m edges asks: its words, and that every edge leads from one of n processes to one of 64.
pub record CanRaise (m n : ℕ) (edges first processes : List ℕ) : Type 0 where
  pub few : m ≤ 512
  pub few_processes : n ≤ 64
  pub edge_words : 6 * m ≤ length edges
  pub first_words : length first ≡ 128
  pub process_words : length processes ≡ 256
  pub sources : Sources n m edges
  pub destinations : Destinations 64 m edges

-- A.3: bounds are written one by one into a state that has these m edges, the record of these processes and these first ticks; r is how many rose.
unfoldable pub RaisesInPlace : ℕ → ℕ → ℕ → List ℕ → List ℕ → List ℕ → List ℕ → ℕ → Type 0
RaisesInPlace m n H first processes w u r = (s : State) → s.edges ≡ edges_of m w → s.inbound ≡ inbounds_of n processes → FirstTicks n s.pending H first
    → raise_bounds s H ≡ record { now = with_edges s (edges_of m u); raised = r }

-- And the record of n processes, in their table afterwards, is that of the raised edges.
pub record RaisesBounds (m n H : ℕ) (first w processes u processes' : List ℕ) (r : ℕ) : Type 0 where
  pub in_place : RaisesInPlace m n H first processes w u r
  pub recorded : RecordsInbound n (edges_of m u) processes processes'
