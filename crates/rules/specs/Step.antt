-- Step: document 01, "Step and hand back", rows 11, 12, 23, 24.
use Rattle.std.specs.Prelude.{Bool, false, not, ◌&&◌, ◌||◌, List, [], ◌∷◌, ℕ, zero, suc, ◌+◌, ◌-◌, min, max, leb, ltb}
use Rattle.rules.specs.Base.{if◌then◌otherwise◌, Maybe, none, some, up_to, every, non_empty}
use Rattle.rules.specs.State.{Event, Edge, with_bound, Stored, unset, stored, State, Counters, with_batch, closed, poison, saturating_add, max_tick}
use Rattle.rules.specs.Answers
use Rattle.rules.specs.Answers.{Batch, Advanced, Finished, Refused}
use Rattle.rules.specs.Rows.{Row, ◌⇒◌, unless, Out, out, refuse}
use Rattle.rules.specs.Pending.{first_tick, without_first}
use Rattle.rules.specs.Frontiers.{inbound_of, safe, eligible, any_eligible}
use Rattle.rules.specs.Foreign.{foreign}
use Rattle.rules.specs.Refresh.{raised, refreshed}

-- "in id order, take the first eligible event of each process while used + taken < budget": `room` is budget - used - taken. Without room the walk ends: no later process could be taken either.
pub record BatchTaken : Type 0 where
  pub events : List Event
  pub left : List Event

unfoldable pub take_eligible_at : Maybe Event → ℕ → List Event → ℕ → (ℕ → List Event → BatchTaken) → BatchTaken
take_eligible_at none p q room rest = rest room q
take_eligible_at (some e) p q zero rest = record { events = []; left = q }
take_eligible_at (some e) p q (suc room) rest =
    let r = rest room (without_first q p) in
    record { events = e ∷ r.events; left = r.left }

unfoldable pub take_eligible : List ℕ → ℕ → List ℕ → ℕ → List Event → BatchTaken
take_eligible m H [] room q = record { events = []; left = q }
take_eligible m H (p ∷ ps) room q = take_eligible_at (eligible m H q p) p q room (take_eligible m H ps)

-- "local horizon h(p) .. rises to min(safe(p), first pending tick or H)"
unfoldable pub input_frontier : State → ℕ → ℕ → ℕ
input_frontier s H p = min (safe s.inbound H p) (first_tick s.pending p H)

-- "each edge bound from s rises to min(H, min(safe(s), first pending tick or H) + L), or to H on overflow." A.4: L is the edge's.
unfoldable pub new_bound : State → ℕ → Edge → ℕ
new_bound s H e =
    let t = input_frontier s H e.source + e.lookahead in
    if ltb max_tick t then H otherwise min H t

-- "All read safe as it was before."
unfoldable pub raised_edges : State → ℕ → List Edge → List Edge
raised_edges s H [] = []
raised_edges s H (e ∷ es) = with_bound e (max e.bound (new_bound s H e)) ∷ raised_edges s H es

-- How many bounds of the second list are above those of the first. "Each bound raised is one null message."
unfoldable pub count_raised : List Edge → List Edge → ℕ
count_raised [] fs = 0
count_raised (e ∷ es) [] = 0
count_raised (e ∷ es) (f ∷ fs) = (if ltb e.bound f.bound then 1 otherwise 0) + count_raised es fs

-- Whether a local horizon rose.
unfoldable pub any_raised : List ℕ → List ℕ → Bool
any_raised [] ys = false
any_raised (x ∷ xs) [] = false
any_raised (x ∷ xs) (y ∷ ys) = ltb x y || any_raised xs ys

abbrev pub new_edges : State → ℕ → List Edge
new_edges s H = raised_edges s H s.edges

abbrev pub new_horizons : State → ℕ → List ℕ
new_horizons s H = raised (input_frontier s H) 0 s.horizons

abbrev pub null_messages_of : State → ℕ → ℕ
null_messages_of s H = count_raised s.edges (new_edges s H)

unfoldable pub any_advanced : State → ℕ → Bool
any_advanced s H = ltb 0 (null_messages_of s H) || any_raised s.horizons (new_horizons s H)

-- "Then refresh GVT." The record after it is that of the raised edges (A.2).
abbrev pub advanced : State → ℕ → State
advanced s horizon = refreshed s horizon (new_edges s (suc horizon)) (inbound_of s.n (new_edges s (suc horizon))) (new_horizons s (suc horizon))

-- "If anything rose, rounds + 1."
abbrev pub count_advance : Counters → ℕ → Counters
count_advance c k = record { handled = c.handled; emitted = c.emitted; remote = c.remote; rounds = saturating_add c.rounds 1; null_messages = saturating_add c.null_messages k; worker_count = c.worker_count }

-- "every h >= H and every pending tick >= H"
unfoldable pub complete : State → ℕ → Bool
complete s H = every (leb H) s.horizons && every (λ e. leb H e.tick) s.pending

-- What an advance has come to: the state, how many edge bounds rose, and whether anything did.
pub record Progress : Type 0 where
  pub state : State
  pub raised : ℕ
  pub rose : Bool

-- "If something rose, answer Advanced. If nothing rose, and [the run is complete], answer Finished and close the run; else poison and answer 12."
abbrev pub answer_advance : Progress → Counters → ℕ → Out
answer_advance a c horizon =
    if a.rose then out (Advanced a.state.gvt) a.state (count_advance c a.raised)
    otherwise if complete a.state (suc horizon) then out (Finished a.state.gvt) (closed a.state) c
    otherwise out (Refused Answers.Poisoned) (poison a.state) c

-- All bounds are raised at once. The code does it edge by edge, which is the same (specs/InPlace.antt).
abbrev pub advanced_at_once : State → ℕ → Progress
advanced_at_once s horizon = record { state = advanced s horizon; raised = null_messages_of s (suc horizon); rose = any_advanced s (suc horizon) }

unfoldable pub advance : State → Counters → ℕ → Out
advance s c horizon = answer_advance (advanced_at_once s horizon) c horizon

abbrev pub taken_at : State → ℕ → ℕ → BatchTaken
taken_at s horizon budget = take_eligible s.inbound (suc horizon) (up_to s.n) (budget - s.used) s.pending

-- "used >= budget and an event is eligible"
abbrev pub spent : State → ℕ → ℕ → Bool
spent s horizon budget = leb budget s.used && any_eligible s.inbound (suc horizon) s.pending (up_to s.n)

-- "Else if used >= budget and an event is eligible, 24. Else advance": a is what the advance gives. 24 leaves "run closed, otherwise as reached".
abbrev pub unless_spent : State → Counters → ℕ → ℕ → Out → Out
unless_spent s c horizon budget a =
    if spent s horizon budget then out (Refused (Answers.EventBudgetExceeded budget)) (closed s) c
    otherwise a

-- "If any was taken, answer the batch."
unfoldable pub step_run : State → Counters → ℕ → ℕ → Out
step_run s c horizon budget =
    let t = taken_at s horizon budget in
    if non_empty t.events then out (Batch t.events s.gvt) (with_batch s t.events t.left) c
    otherwise unless_spent s c horizon budget (advance s c horizon)

-- A run that is open has a horizon: 11 was checked.
unfoldable pub step_at : State → Counters → Stored → Out
step_at s c unset = refuse s c Answers.NothingToStep
step_at s c (stored horizon budget) = step_run s c horizon budget

abbrev pub step_rows : State → List Row
step_rows s =
    (foreign s ⇒ Answers.ForeignState)
    ∷ (s.poisoned ⇒ Answers.Poisoned)
    ∷ (not s.running || non_empty s.batch ⇒ Answers.NothingToStep)
    ∷ []

unfoldable pub step : State → Counters → Out
step s c = unless (step_rows s) (refuse s c) (step_at s c s.stored)
