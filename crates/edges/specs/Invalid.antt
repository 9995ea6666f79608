-- What 11 says of edges, and what the pass over them leaves: pairs seen, and the record.
use Rattle.std.specs.Prelude.{◌≡◌, Bool, false, ◌||◌, List, ℕ}
use Rattle.rules.specs.Base.{any}
use Rattle.rules.specs.State.{Edge}
use Rattle.rules.specs.Pending.{route}
use Rattle.rules.specs.Foreign.{unknown_id_edge, duplicate_or_self_edges, without_lookahead}
use Rattle.inbound.specs.Inbound.{RecordsInbound}
use Rattle.edges.specs.Routes.{Routes, Marked}

-- The answer for an edge when those in w were seen: an end is not below n, its lookahead is 0, it leads to its own source, or its pair was seen. If it is no, u has the edge too.
pub record InvalidEdge (n : ℕ) (e : Edge) (w u : List ℕ) (r : Bool) : Type 0 where
  pub answer : (es : List Edge) → Routes es w → r ≡ unknown_id_edge n e || without_lookahead e || route es e.source e.destination
  pub marked : r ≡ false → Marked e w u

-- The answer for all edges: "an id not below n", A.4's "an edge lookahead of 0", "an edge twice or to its own source". If it is no, u has the record of the edges.
pub record InvalidEdges (n : ℕ) (es : List Edge) (w u : List ℕ) (r : Bool) : Type 0 where
  pub answer : r ≡ any (unknown_id_edge n) es || any without_lookahead es || duplicate_or_self_edges es
  pub records : r ≡ false → RecordsInbound n es w u
