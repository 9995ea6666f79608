-- What writing edges asks and leaves, in the words of rules/Build.
use Rattle.std.specs.Prelude.{◌≡◌, List, ◌++◌, ℕ, ◌+◌, ◌*◌, ◌≤◌, length, drop}
use Rattle.records.specs.Records
use Rattle.rules.specs.Base.{sum}
use Rattle.rules.specs.Build
use Rattle.rules.specs.State.{Edge}
use Rattle.build_topology.specs.Lookaheads.{targets_for}

-- The edge from p to d with the lookahead l, which is its first bound.
abbrev pub new_edge : ℕ → ℕ → ℕ → Edge
new_edge p d l = Build.edge_to p (record { destination = d; lookahead = l })

-- From w to u the edges es are written behind the first `at`; these stay, and so do the words behind.
pub record WritesRow (at : ℕ) (es : List Edge) (w u : List ℕ) : Type 0 where
  pub edges : Records.edges_of (at + length es) u ≡ Records.edges_of at w ++ es
  pub beyond : drop (6 * (at + length es)) u ≡ drop (6 * (at + length es)) w

-- Rows that use up their list, two words of lookahead for each destination, and words for all edges.
pub record Writable (sources counts destinations lookaheads edges : List ℕ) : Type 0 where
  pub paired : length sources ≡ length counts
  pub used_up : sum counts ≡ length destinations
  pub beside : length lookaheads ≡ 2 * length destinations
  pub room : 6 * length destinations ≤ length edges

-- The edges of all rows; the words behind them stay.
pub record WritesEdges (sources counts destinations lookaheads : List ℕ) (entry exit : List ℕ) : Type 0 where
  pub edges : Records.edges_of (length destinations) exit ≡ Build.edges_of sources counts (targets_for destinations lookaheads)
  pub beyond : drop (6 * length destinations) exit ≡ drop (6 * length destinations) entry
