-- The tests of 11 by what the program reads for them: the header, the edges and the record, the pending events, the batch.
use Rattle.std.specs.Prelude.{◌≡◌, Bool, not, ◌&&◌, List, [], ◌∷◌, ℕ, ltb, eqb}
use Rattle.types.specs.Value.{ticks_of, duration_of}
use Rattle.words.specs.Words.{inbound_at}
use Rattle.rules.specs.Base.{up_to, any, any_of, rising}
use Rattle.rules.specs.State.{Event, Edge, Stored, max_processes, max_edges, max_pending}
use Rattle.rules.specs.Pending.{before}
use Rattle.rules.specs.Frontiers.{least_inbound, recorded}
use Rattle.rules.specs.Foreign.{unknown_id_edge, duplicate_or_self_edges, without_lookahead, horizon_is_max, is_unset, by_process, foreign}
use Rattle.foreign_events.specs.Clauses.{any_invalid_event, any_sequence_not_below}
use Rattle.state.specs.declared.Header.{Header}
use Rattle.state.specs.View.{view, stored_of}

-- "a process count outside 1 to 64, L = 0"
abbrev pub size_tests : Header → List Bool
size_tests h = eqb h.n 0 ∷ ltb max_processes h.n ∷ eqb (duration_of h.lookahead) 0 ∷ []

-- "a count .. over its limit"
abbrev pub count_tests : Header → List Bool
count_tests h = ltb max_edges h.edges ∷ ltb max_pending h.pending ∷ ltb max_processes h.batch ∷ []

-- "a stored horizon of 2^128 - 1, an open run without a stored horizon, a batch without an open run"
abbrev pub stored_in : Header → Stored
stored_in h = stored_of h.stored (ticks_of h.horizon) h.budget

abbrev pub run_tests : Header → List Bool
run_tests h = horizon_is_max (stored_in h) ∷ (h.running && is_unset (stored_in h)) ∷ (ltb 0 h.batch && not h.running) ∷ []

abbrev pub header_tests : Header → List Bool
header_tests h = any_of (size_tests h) ∷ any_of (count_tests h) ∷ any_of (run_tests h) ∷ []

-- "an id not below n"; A.4: "an edge lookahead of 0"; "an edge twice or to its own source"; and A.2's record m: "A state where it is wrong is foreign"
abbrev pub wrong_in : ℕ → List Edge → List ℕ → Bool
wrong_in n es m = any (λ p. not (eqb (recorded m p) (least_inbound es p))) (up_to n)

abbrev pub edge_tests : ℕ → List Edge → List ℕ → List Bool
edge_tests n es m = any (unknown_id_edge n) es ∷ any without_lookahead es ∷ duplicate_or_self_edges es ∷ wrong_in n es m ∷ []

-- Process p has another least inbound bound in w than in u.
abbrev pub differs_at : List ℕ → List ℕ → ℕ → Bool
differs_at w u p = not (eqb (inbound_at w p) (inbound_at u p))

-- "a .. length over its limit, an id not below n, .. pending events not strictly rising .., a pending sequence not below the next one"
abbrev pub pending_tests : ℕ → ℕ → List Event → List Bool
pending_tests n next q = any_invalid_event n q ∷ not (rising before q) ∷ any_sequence_not_below next q ∷ []

-- "a .. length over its limit, an id not below n, .. or a batch not strictly rising by process"
abbrev pub batch_tests : ℕ → List Event → List Bool
batch_tests n bs = any_invalid_event n bs ∷ not (rising by_process bs) ∷ []

-- The answer is the rule's.
unfoldable pub IsForeign : Header → List ℕ → List ℕ → List ℕ → List ℕ → Bool → Type 0
IsForeign h edges pending processes batch r = r ≡ foreign (view h edges pending processes batch)
