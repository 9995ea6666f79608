-- 11: "A foreign state has ..". One clause for each part of document 01's sentence, in its order, and one for A.2's and for A.4's.
use Rattle.std.specs.Prelude.{Bool, true, false, not, ◌&&◌, ◌||◌, List, [], ◌∷◌, ℕ, leb, ltb, eqb, length}
use Rattle.rules.specs.Base.{up_to, any, any_of, non_empty, rising}
use Rattle.rules.specs.State.{Event, Edge, Stored, unset, stored, State, max_tick, max_processes, max_edges, max_pending, max_payload}
use Rattle.rules.specs.Pending.{joins, before}
use Rattle.rules.specs.Frontiers.{least_inbound, recorded}

-- "a count or length over its limit". 01 gives a batch no limit of its own: at most one event of each process, so 64.
abbrev pub long_payload : Event → Bool
long_payload e = ltb max_payload (length e.payload)

unfoldable pub over_limit : State → Bool
over_limit s = any_of (ltb max_edges (length s.edges) ∷ ltb max_pending (length s.pending) ∷ ltb max_processes (length s.batch) ∷ any long_payload s.pending ∷ any long_payload s.batch ∷ [])

-- "an id not below n"
abbrev pub unknown_id_edge : ℕ → Edge → Bool
unknown_id_edge n e = leb n e.source || leb n e.destination

abbrev pub unknown_id_event : ℕ → Event → Bool
unknown_id_event n e = leb n e.source || leb n e.destination

unfoldable pub unknown_id : State → Bool
unknown_id s = any_of (any (unknown_id_edge s.n) s.edges ∷ any (unknown_id_event s.n) s.pending ∷ any (unknown_id_event s.n) s.batch ∷ [])

-- "an edge twice or to its own source"
unfoldable pub duplicate_or_self_edges : List Edge → Bool
duplicate_or_self_edges [] = false
duplicate_or_self_edges (e ∷ es) = eqb e.source e.destination || any (joins e.source e.destination) es || duplicate_or_self_edges es

-- "a stored horizon of 2^128 - 1": no tick is larger.
unfoldable pub horizon_is_max : Stored → Bool
horizon_is_max unset = false
horizon_is_max (stored h b) = leb max_tick h

unfoldable pub is_unset : Stored → Bool
is_unset unset = true
is_unset (stored h b) = false

-- A.2: "A state where it is wrong is foreign": of some process the record has another tick than its least inbound bound, or than the largest tick, where no edge leads to it.
unfoldable pub wrong_record : State → Bool
wrong_record s = any (λ p. not (eqb (recorded s.inbound p) (least_inbound s.edges p))) (up_to s.n)

-- A.4: "A state with an edge lookahead of 0 is foreign."
abbrev pub without_lookahead : Edge → Bool
without_lookahead e = eqb e.lookahead 0

abbrev pub by_process : Event → Event → Bool
by_process e f = ltb e.destination f.destination

abbrev pub clauses : State → List Bool
clauses s =
    -- "a process count outside 1 to 64"
    (eqb s.n 0 || ltb max_processes s.n)
    -- "L = 0"
    ∷ eqb s.lookahead 0
    ∷ over_limit s
    ∷ unknown_id s
    ∷ duplicate_or_self_edges s.edges
    -- "pending events not strictly rising by (destination, tick, source, sequence)"
    ∷ not (rising before s.pending)
    -- "a pending sequence not below the next one"
    ∷ any (λ e. leb s.next e.sequence) s.pending
    ∷ horizon_is_max s.stored
    -- "an open run without a stored horizon"
    ∷ (s.running && is_unset s.stored)
    -- "a batch without an open run"
    ∷ (non_empty s.batch && not s.running)
    -- "or a batch not strictly rising by process"
    ∷ not (rising by_process s.batch)
    ∷ wrong_record s
    ∷ any without_lookahead s.edges
    -- A state has one local horizon for each process, and one tick of the record. The program's has them by its layout, so the documents need no words for it.
    ∷ not (eqb (length s.horizons) s.n)
    ∷ not (eqb (length s.inbound) s.n)
    ∷ []

unfoldable pub foreign : State → Bool
foreign s = any_of (clauses s)
