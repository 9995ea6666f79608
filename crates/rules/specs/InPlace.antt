-- Request A.3 of document 02: "it shall keep no list of new bounds beside the old ones and write each bound when it is found. Frontiers before the advance still decide".
-- The advance of specs/Step.antt raises all bounds at once, as document 01 has it. This one goes edge by edge on the state itself, and the code is held to it; that the two are one is `InPlaceProved`, at the end.
use Rattle.std.specs.Prelude.{◌≡◌, false, ◌||◌, List, [], ◌∷◌, ℕ, zero, suc, ltb, length}
use Rattle.rules.specs.Base.{if◌then◌otherwise◌, Maybe, none, some, up_to}
use Rattle.rules.specs.State.{Edge, with_bound, State, Counters, with_bounds}
use Rattle.rules.specs.Rows.{Out}
use Rattle.rules.specs.Frontiers.{inbound_of}
use Rattle.rules.specs.Foreign.{foreign}
use Rattle.rules.specs.Refresh.{refreshed}
use Rattle.rules.specs.Step.{new_bound, any_raised, new_horizons, Progress, answer_advance, advance}

-- The i-th edge, from 0, and the edges with the bound b written there.
unfoldable pub nth_edge : List Edge → ℕ → Maybe Edge
nth_edge [] i = none
nth_edge (e ∷ es) zero = some e
nth_edge (e ∷ es) (suc i) = nth_edge es i

unfoldable pub set_bound : List Edge → ℕ → ℕ → List Edge
set_bound [] i b = []
set_bound (e ∷ es) zero b = with_bound e b ∷ es
set_bound (e ∷ es) (suc i) b = e ∷ set_bound es i b

-- The state with the edges es. All else stays, A.2's record too.
abbrev pub with_edges : State → List Edge → State
with_edges s es = with_bounds s es s.inbound s.horizons s.gvt

-- How far the bounds are raised: the state as it is now, and how many rose.
pub record Raising : Type 0 where
  pub now : State
  pub raised : ℕ

-- "write each bound when it is found": what the bound of edge i rises to is found by the state as it is now, earlier edges written, and if it is above the edge's bound, it takes its place.
-- "Frontiers before the advance still decide": they are read from the record, which no such writing changes. "Each bound raised is one null message."
unfoldable pub raise_bound : ℕ → Raising → ℕ → Maybe Edge → Raising
raise_bound H r i none = r
raise_bound H r i (some e) =
    let b = new_bound r.now H e in
    if ltb e.bound b then record { now = with_edges r.now (set_bound r.now.edges i b); raised = suc r.raised }
    otherwise r

unfoldable pub raise_bound_at : ℕ → Raising → ℕ → Raising
raise_bound_at H r i = raise_bound H r i (nth_edge r.now.edges i)

unfoldable pub raise_each : ℕ → Raising → List ℕ → Raising
raise_each H r [] = r
raise_each H r (i ∷ is) = raise_each H (raise_bound_at H r i) is

-- Edge by edge, on the state s itself.
unfoldable pub raise_bounds : State → ℕ → Raising
raise_bounds s H = raise_each H (record { now = s; raised = 0 }) (up_to (length s.edges))

-- The rest of an advance, once the bounds are raised: local horizons rise and GVT is refreshed, by the record as it still is; last, the record is made of the edges as they are now.
unfoldable pub progress_from : Raising → ℕ → Progress
progress_from r horizon =
    let hs = new_horizons r.now (suc horizon) in
    record {
      state = refreshed r.now horizon r.now.edges (inbound_of r.now.n r.now.edges) hs;
      raised = r.raised;
      rose = ltb 0 r.raised || any_raised r.now.horizons hs;
    }

abbrev pub advanced_in_place : State → ℕ → Progress
advanced_in_place s horizon = progress_from (raise_bounds s (suc horizon)) horizon

unfoldable pub advance_in_place : State → Counters → ℕ → Out
advance_in_place s c horizon = answer_advance (advanced_in_place s horizon) c horizon

-- What A.3 rules out: the record is made anew after each edge, so that the next one reads frontiers of after the bounds written so far.
abbrev pub record_anew : State → State
record_anew s = with_bounds s s.edges (inbound_of s.n s.edges) s.horizons s.gvt

unfoldable pub raise_reading_anew : ℕ → Raising → List ℕ → Raising
raise_reading_anew H r [] = r
raise_reading_anew H r (i ∷ is) = let a = raise_bound_at H r i in raise_reading_anew H (record { now = record_anew a.now; raised = a.raised }) is

unfoldable pub advance_reading_anew : State → Counters → ℕ → Out
advance_reading_anew s c horizon = answer_advance (progress_from (raise_reading_anew (suc horizon) (record { now = s; raised = 0 }) (up_to (length s.edges))) horizon) c horizon

pub record InPlaceProved : Type 0 where
  -- "on every state that 11 lets pass, answer, state and counters are proved equal to those of an advance that raises all bounds at once": on every state there is, since both read frontiers from the record. Where 11 lets the state pass, that is document 01's frontier (proofs/Recorded.antt, safe-is-least).
  pub same : (s : State) (c : Counters) (horizon : ℕ) → advance_in_place s c horizon ≡ advance s c horizon
  -- With frontiers read anew at each edge it is false, of states that 11 lets pass too (specs/Slips.antt, chain-run).
  pub not_read_anew : ((s : State) (c : Counters) (horizon : ℕ) → foreign s ≡ false → advance_reading_anew s c horizon ≡ advance s c horizon) → ⊥
