-- Build: document 01, "Calls and what they turn away", rows 1 to 10, and A.4 of document 02: a lookahead for each edge, and 40.
use Rattle.std.specs.Prelude.{Bool, true, false, not, ◌||◌, List, [], ◌∷◌, ◌++◌, map, ℕ, ◌+◌, ◌^◌, leb, ltb, eqb, length, take, drop}
use Rattle.rules.specs.Base.{if◌then◌otherwise◌, Maybe, none, some, up_to, any, any_of, member, sum, count, rising}
use Rattle.rules.specs.State.{Edge, Counters, State, unset, zeros, max_processes, max_edges}
use Rattle.rules.specs.Answers
use Rattle.rules.specs.Answers.{Answer, Accepted, Refused}
use Rattle.rules.specs.Rows.{Row, ◌⇒◌, unless}
use Rattle.rules.specs.Frontiers.{inbound_of}
use Rattle.rules.specs.Refresh.{least}

-- "Build takes n, L, process ids, rows (source, how many destinations) and one list from which the rows take their destinations in turn."
-- Rows come as two lists, their sources and their counts; A.4: "Each edge gets its own lookahead, beside its destination in build's list", so that list comes as two, destinations and lookaheads.
pub record Setup : Type 0 where
  pub n : ℕ
  pub lookahead : ℕ
  pub ids : List ℕ
  pub sources : List ℕ
  pub counts : List ℕ
  pub destinations : List ℕ
  pub lookaheads : List ℕ

abbrev pub setup : ℕ → ℕ → List ℕ → List ℕ → List ℕ → List ℕ → List ℕ → Setup
setup n L ids sources counts destinations lookaheads = record { n = n; lookahead = L; ids = ids; sources = sources; counts = counts; destinations = destinations; lookaheads = lookaheads }

-- A destination of the list, with the lookahead beside it.
pub record Target : Type 0 where
  pub destination : ℕ
  pub lookahead : ℕ

unfoldable pub targets : List ℕ → List ℕ → List Target
targets [] ls = []
targets (d ∷ ds) [] = []
targets (d ∷ ds) (l ∷ ls) = record { destination = d; lookahead = l } ∷ targets ds ls

-- "the least edge lookahead, or the plan's if there is no edge": of the plan's L and the edges' ls.
unfoldable pub least_lookahead : ℕ → List ℕ → ℕ
least_lookahead L [] = L
least_lookahead L (l ∷ ls) = least l ls

-- 4: "64-bit mask of missing ids": 2^p for each p below n that is not among the ids.
unfoldable pub missing : List ℕ → List ℕ → ℕ
missing ids [] = 0
missing ids (p ∷ ps) = (if member p ids then 0 otherwise 2 ^ p) + missing ids ps

-- 4: "how many unexpected": the ids that are not below n.
unfoldable pub unexpected : ℕ → List ℕ → ℕ
unexpected n ids = count (leb n) ids

-- 5: "row sources not strictly rising, rows not using up the list exactly, over 512 edges". Two lists of unequal length are no rows, nor are destinations with more lookaheads or fewer.
unfoldable pub malformed_rows : Setup → Bool
malformed_rows a =
    any_of
    (not (eqb (length a.sources) (length a.counts))
    ∷ not (rising ltb a.sources)
    ∷ not (eqb (sum a.counts) (length a.destinations))
    ∷ ltb max_edges (length a.destinations)
    ∷ not (eqb (length a.lookaheads) (length a.destinations))
    ∷ [])

-- 6: the least of the processes ps that has no row.
unfoldable pub least_without_row : List ℕ → List ℕ → ℕ
least_without_row sources [] = 0
least_without_row sources (p ∷ ps) = if member p sources then least_without_row sources ps otherwise p

-- "for each destination in turn 8, 9, 10", and "40 an edge lookahead of 0, after 10 for that edge": those of the source p, after the destinations `seen` of its row.
unfoldable pub destination_rows : ℕ → ℕ → List ℕ → List Target → List Row
destination_rows n p seen [] = []
destination_rows n p seen (t ∷ ts) =
    (leb n t.destination ⇒ Answers.UnknownTopologyDestination p t.destination)
    ∷ (eqb t.destination p ⇒ Answers.SelfLoop p)
    ∷ (member t.destination seen ⇒ Answers.DuplicateNeighbor p t.destination)
    ∷ (eqb t.lookahead 0 ⇒ Answers.InvalidEdgeLookahead)
    ∷ destination_rows n p (t.destination ∷ seen) ts

-- "then each row: 7, and for each destination in turn".
unfoldable pub topology_rows : ℕ → List ℕ → List ℕ → List Target → List Row
topology_rows n [] counts ts = []
topology_rows n (p ∷ sources) [] ts = []
topology_rows n (p ∷ sources) (k ∷ counts) ts =
    (leb n p ⇒ Answers.UnknownTopologySource p) ∷ (destination_rows n p [] (take k ts) ++ topology_rows n sources counts (drop k ts))

-- "Build checks 1 to 6, then each row".
abbrev pub build_rows : Setup → List Row
build_rows a =
    (eqb a.n 0 || ltb max_processes a.n ⇒ Answers.InvalidPartitionCount a.n)
    ∷ (eqb a.lookahead 0 ⇒ Answers.InvalidLookahead)
    ∷ (not (rising ltb a.ids) ⇒ Answers.UnorderedProcesses)
    ∷ (ltb 0 (missing a.ids (up_to a.n)) || ltb 0 (unexpected a.n a.ids) ⇒ Answers.ProcessSetMismatch (missing a.ids (up_to a.n)) (unexpected a.n a.ids))
    ∷ (malformed_rows a ⇒ Answers.MalformedTopology)
    ∷ (any (λ p. not (member p a.sources)) (up_to a.n) ⇒ Answers.MissingTopologyEntry (least_without_row a.sources (up_to a.n)))
    ∷ topology_rows a.n a.sources a.counts (targets a.destinations a.lookaheads)

-- The edge from p to a target. "Each edge has a bound, at first L": A.4: its own.
abbrev pub edge_to : ℕ → Target → Edge
edge_to p t = record { source = p; destination = t.destination; lookahead = t.lookahead; bound = t.lookahead }

-- The edges of all rows, in the order of the list.
unfoldable pub edges_of : List ℕ → List ℕ → List Target → List Edge
edges_of [] counts ts = []
edges_of (p ∷ sources) [] ts = []
edges_of (p ∷ sources) (k ∷ counts) ts = map (edge_to p) (take k ts) ++ edges_of sources counts (drop k ts)

-- "Once built, nothing is pending, initial events are open, no horizon is stored, no run is open, and GVT, next sequence and every counter are 0";
-- "local horizon h(p), at first 0". A.2's record is that of its edges.
unfoldable pub built : Setup → State
built a =
    let es = edges_of a.sources a.counts (targets a.destinations a.lookaheads) in
    record { n = a.n; lookahead = a.lookahead; edges = es; pending = []; next = 0; horizons = map (λ p. 0) (up_to a.n); inbound = inbound_of a.n es; gvt = 0; stored = unset; used = 0; batch = []; initial = true; running = false; poisoned = false }

-- "nothing made"; "a refused build leaves the lent counters untouched".
pub record BuildOut : Type 0 where
  pub answer : Answer
  pub made : Maybe State
  pub counters : Counters

unfoldable pub build : Setup → Counters → BuildOut
build a c = unless (build_rows a) (λ r. record { answer = Refused r; made = none; counters = c }) (record { answer = Accepted; made = some (built a); counters = zeros })
