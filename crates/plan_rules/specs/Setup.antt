-- What build is given of a plan, and 39.
use Rattle.std.specs.Prelude.{Bool, List, [], ◌∷◌, map, ℕ, suc, ◌/◌, ltb, eqb}
use Rattle.rules.specs.Base.{if◌then◌otherwise◌, up_to}
use Rattle.rules.specs.Build.{Setup, least_lookahead}
use Rattle.plan_file.specs.Plan.{PlanEdge, Plan}

-- A row of build: its source and how many destinations it takes.
pub record TopologyRow : Type 0 where
  pub source : ℕ
  pub count : ℕ

-- Edges of one source that stand side by side are one row, in the file's order. Where sources fall, the rows do not rise.
unfoldable pub joined : ℕ → List TopologyRow → List TopologyRow
joined p [] = record { source = p; count = 1 } ∷ []
joined p (r ∷ rs) = if eqb p r.source then record { source = p; count = suc r.count } ∷ rs otherwise record { source = p; count = 1 } ∷ r ∷ rs

unfoldable pub edge_rows : List PlanEdge → List TopologyRow
edge_rows [] = []
edge_rows (e ∷ es) = joined e.source (edge_rows es)

-- "Every process has a row": an empty one before the first row of a greater source, where it has none. One row more never makes rows rise that did not.
unfoldable pub place : ℕ → List TopologyRow → List TopologyRow
place p [] = record { source = p; count = 0 } ∷ []
place p (r ∷ rs) = if ltb p r.source then record { source = p; count = 0 } ∷ r ∷ rs otherwise if eqb p r.source then r ∷ rs otherwise r ∷ place p rs

unfoldable pub place_all : List ℕ → List TopologyRow → List TopologyRow
place_all [] rs = rs
place_all (p ∷ ps) rs = place_all ps (place p rs)

unfoldable pub rows : Plan → List TopologyRow
rows p = place_all (up_to p.n) (edge_rows p.edges)

-- The edges' lookaheads, in the file's order.
abbrev pub lookaheads_of : Plan → List ℕ
lookaheads_of p = map (λ (e : PlanEdge). e.lookahead) p.edges

-- "Every process has a row, and so has any other source of an edge; edges stand by rising source, else 5." A.4: "Each edge gets its own lookahead, beside its destination in build's list".
unfoldable pub setup_of : Plan → Setup
setup_of p = record { n = p.n; lookahead = p.lookahead; ids = up_to p.n; sources = map (λ (r : TopologyRow). r.source) (rows p); counts = map (λ (r : TopologyRow). r.count) (rows p); destinations = map (λ (e : PlanEdge). e.destination) p.edges; lookaheads = lookaheads_of p }

-- A.4: "the least edge lookahead, or the plan's if there is no edge", even where the plan's is less. It is the L of the rules' demand 3.
abbrev pub least_lookahead_of : Plan → ℕ
least_lookahead_of p = least_lookahead p.lookahead (lookaheads_of p)

-- 39: "floor(horizon / lookahead) above 65,536, after build"; A.4: "in 39, read the least edge lookahead". After an accepted build it is not 0.
unfoldable pub too_long : Plan → Bool
too_long p = ltb 65536 (p.horizon / least_lookahead_of p)
