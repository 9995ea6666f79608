-- Computed cases beside C1 to C10, for what these do not notice of slips in document 01 (in what a refusal leaves, in the order of two causes, in what is counted) and in A.2 and A.3 of document 02 (in the record of least inbound bounds, and in what is read from it while bounds are written).
-- An input for each refusal 1 to 36, and for each limit, is run by programs, against the Rust where it has an answer (docs/WHERE.md).
use Rattle.std.specs.Prelude.{◌≡◌, true, false, List, [], ◌∷◌, ◌++◌, map, ℕ, ◌-◌, ◌^◌}
use Rattle.rules.specs.State.{Event, Edge, unset, stored, State, Counters, zeros, with_handled, with_bounds, closed, poison, max_tick, max_count}
use Rattle.rules.specs.Answers
use Rattle.rules.specs.Answers.{Entity, Accepted, Batch, Advanced, Finished, Committed, Refused, number, values}
use Rattle.rules.specs.Rows.{Out, out}
use Rattle.rules.specs.Build.{Setup, built}
use Rattle.rules.specs.Initial.{add_initial}
use Rattle.rules.specs.Step.{step, advance}
use Rattle.rules.specs.InPlace.{advance_in_place, advance_reading_anew}
use Rattle.rules.specs.HandBack.{Emission, hand_back}
use Rattle.rules.specs.Plan.{plan}
use Rattle.rules.specs.Calls.{Call, AddInitial, Begin, Step, HandBack, rule}
use Rattle.rules.specs.Rehearsals.{pair, one_way, answers, null_messages_counted, budget, message, event, emits, initial_at, at_two, handing_back}

-- Number and values of an answer, and what is left.
pub record Outcome : Type 0 where
  pub number : ℕ
  pub values : List ℕ
  pub left : State
  pub counters : Counters

abbrev pub outcome_of : Out → Outcome
outcome_of o = record { number = number o.answer; values = values o.answer; left = o.after; counters = o.counters }

-- The call answers the number k with the values vs, and leaves the state t and the counters as lent, whatever these are.
abbrev pub AnswersWith : (Counters → Out) → ℕ → List ℕ → State → Type 0
AnswersWith f k vs t = (c : Counters) → outcome_of (f c) ≡ record { number = k; values = vs; left = t; counters = c }

-- The state that the calls of a list leave, one after the other.
unfoldable pub state_after : State → Counters → List Call → State
state_after s c [] = s
state_after s c (k ∷ ks) = let o = rule s c k in state_after o.after o.counters ks

unfoldable pub after : List Call → State
after ks = state_after (built pair) zeros ks

-- In a run on the edges 0→1 and 1→0, with q pending, the next sequence number k, the budget u and the batch b in hand. Written out, since computing with states that are themselves computed takes too long; `Reached` says that calls lead to them.
abbrev pub in_run : List Event → ℕ → ℕ → List Event → State
in_run q k u b = record { n = 2; lookahead = 3; edges = record { source = 0; destination = 1; lookahead = 3; bound = 3 } ∷ record { source = 1; destination = 0; lookahead = 3; bound = 3 } ∷ []; pending = q; next = k; horizons = 0 ∷ 0 ∷ []; inbound = 3 ∷ 3 ∷ []; gvt = 0; stored = stored 9 u; used = 0; batch = b; initial = false; running = true; poisoned = false }

-- C3's batch in hand, process 1's event at 2; and that batch lost to a bad emission.
abbrev pub in_hand_holds : State
in_hand_holds = in_run [] 1 budget (event 0 1 2 0 ∷ [])

abbrev pub poisoned_state : State
poisoned_state = poison in_hand_holds

-- That batch with budget 1, and a second event at 2 still pending.
abbrev pub last_in_hand : State
last_in_hand = in_run (event 0 1 2 1 ∷ []) 2 1 (event 0 1 2 0 ∷ [])

-- Both processes have an event in hand: 0 at 1, 1 at 2.
abbrev pub two_in_hand : State
two_in_hand = in_run [] 2 budget (event 0 0 1 0 ∷ event 0 1 2 1 ∷ [])

-- C4 before its step: an event at 2, budget 0.
abbrev pub no_budget : State
no_budget = in_run (event 0 1 2 0 ∷ []) 1 0 []

-- A.3's chain, the edges 0→1 and 1→2, in its run before the first step; and the bounds that an advance leaves.
unfoldable pub chain : Setup
chain = record { n = 3; lookahead = 3; ids = 0 ∷ 1 ∷ 2 ∷ []; sources = 0 ∷ 1 ∷ 2 ∷ []; counts = 1 ∷ 1 ∷ 0 ∷ []; destinations = 1 ∷ 2 ∷ []; lookaheads = 3 ∷ 3 ∷ [] }

abbrev pub chain_run : State
chain_run = record { n = 3; lookahead = 3; edges = record { source = 0; destination = 1; lookahead = 3; bound = 3 } ∷ record { source = 1; destination = 2; lookahead = 3; bound = 3 } ∷ []; pending = []; next = 0; horizons = 0 ∷ 0 ∷ 0 ∷ []; inbound = max_tick ∷ 3 ∷ 3 ∷ []; gvt = 0; stored = stored 9 budget; used = 0; batch = []; initial = false; running = true; poisoned = false }

abbrev pub bounds_left : Out → List ℕ
bounds_left o = map (λ (e : Edge). e.bound) o.after.edges

pub record Reached : Type 0 where
  pub in_hand_reached : after at_two ≡ in_hand_holds
  pub poisoned_reached : after (handing_back (emits 1 1 1)) ≡ poisoned_state
  pub last_reached : after (AddInitial (message 0 1 2) ∷ AddInitial (message 0 1 2) ∷ Begin 9 1 ∷ Step ∷ []) ≡ last_in_hand
  pub two_reached : after (AddInitial (message 0 0 1) ∷ AddInitial (message 0 1 2) ∷ Begin 9 budget ∷ Step ∷ []) ≡ two_in_hand
  pub no_budget_reached : after (initial_at 2 0) ≡ no_budget
  pub chain_reached : state_after (built chain) zeros (Begin 9 budget ∷ []) ≡ chain_run

-- By hand, since no calls lead there: the local horizons are 9; no sequence number is left; L is 0, and it is poisoned.
abbrev pub horizons_at_nine : State
horizons_at_nine = with_bounds in_hand_holds in_hand_holds.edges in_hand_holds.inbound (9 ∷ 9 ∷ []) 0

abbrev pub sequence_exhausted : State
sequence_exhausted = record { n = 2; lookahead = 3; edges = in_hand_holds.edges; pending = []; next = 2 ^ 64 - 1; horizons = 0 ∷ 0 ∷ []; inbound = 3 ∷ 3 ∷ []; gvt = 0; stored = unset; used = 0; batch = []; initial = true; running = false; poisoned = false }

abbrev pub no_lookahead : State
no_lookahead = record { n = 2; lookahead = 0; edges = []; pending = []; next = 0; horizons = 0 ∷ 0 ∷ []; inbound = max_tick ∷ max_tick ∷ []; gvt = 0; stored = unset; used = 0; batch = []; initial = true; running = false; poisoned = true }

-- That batch in hand again, with A.2's record wrong of the second process.
abbrev pub wrong_second : State
wrong_second = with_bounds in_hand_holds in_hand_holds.edges (3 ∷ 4 ∷ []) in_hand_holds.horizons 0

-- Edges 0→2, 1→2 and 2→0.
unfoldable pub two_into_one : Setup
two_into_one = record { n = 3; lookahead = 3; ids = 0 ∷ 1 ∷ 2 ∷ []; sources = 0 ∷ 1 ∷ 2 ∷ []; counts = 1 ∷ 1 ∷ 1 ∷ []; destinations = 2 ∷ 2 ∷ 0 ∷ []; lookaheads = 3 ∷ 3 ∷ 3 ∷ [] }

-- The process p emits, but names a as the source.
abbrev pub wrong_source : ℕ → ℕ → ℕ → ℕ → Emission
wrong_source p a b t = record { emitter = p; message = message a b t }

-- Each process has events at 0 and 1, budget 3; then a second run.
abbrev pub three_of_four : List Call
three_of_four = AddInitial (message 0 0 0) ∷ AddInitial (message 0 0 1) ∷ AddInitial (message 0 1 0) ∷ AddInitial (message 0 1 1) ∷ Begin 9 3 ∷ Step ∷ HandBack 0 [] ∷ Step ∷ HandBack 0 [] ∷ Begin 9 3 ∷ Step ∷ []

-- C3, its batch handed back, and a step.
abbrev pub one_step_more : List Call
one_step_more = at_two ++ (HandBack 0 [] ∷ Step ∷ [])

abbrev pub full_counters : Counters
full_counters = record { handled = max_count; emitted = max_count; remote = max_count; rounds = max_count; null_messages = max_count; worker_count = 64 }

abbrev pub entity : ℕ → Entity
entity i = record { index = i; generation = 0 }

pub record SlipsNoticed : Type 0 where
  -- 32 of the second emission: the first is not queued, nothing is counted, the batch is lost.
  pub part_of_a_round : AnswersWith (λ c. hand_back in_hand_holds c 0 (emits 1 1 2 ∷ emits 1 0 4 ∷ [])) 32 (1 ∷ 2 ∷ 4 ∷ 5 ∷ []) (poison in_hand_holds)
  -- 24 by hand back: "without refresh", "run closed, otherwise as reached". The event at 2 was handled and is counted.
  pub spent_without_refresh : hand_back last_in_hand zeros 0 [] ≡ out (Refused (Answers.EventBudgetExceeded 1)) (closed (with_handled last_in_hand (event 0 1 2 1 ∷ []) 2 1)) (record { handled = 1; emitted = 0; remote = 0; rounds = 1; null_messages = 0; worker_count = 1 })
  -- 24 by step: "run closed, otherwise as reached".
  pub spent_in_step : AnswersWith (λ c. step no_budget c) 24 (0 ∷ []) (closed no_budget)
  -- 12 before 25, and the state as given.
  pub poisoned_first : AnswersWith (λ c. hand_back poisoned_state c 0 []) 12 [] poisoned_state
  -- 11 before 12.
  pub foreign_first : AnswersWith (λ c. step no_lookahead c) 11 [] no_lookahead
  -- 26: "state as given, batch in hand".
  pub malformed_kept : AnswersWith (λ c. hand_back in_hand_holds c 1 []) 26 [] in_hand_holds
  -- "an earlier process's bad emission comes before a later one's failure"
  pub emission_before_failure : AnswersWith (λ c. hand_back two_in_hand c 2 (wrong_source 0 1 1 5 ∷ [])) 28 (0 ∷ 1 ∷ []) (poison two_in_hand)
  -- "straggler: emission below the destination's local horizon"; at it there is none.
  pub straggler : AnswersWith (λ c. hand_back horizons_at_nine c 0 (emits 1 0 8 ∷ [])) 33 (0 ∷ 8 ∷ 9 ∷ []) (poison horizons_at_nine)
  pub no_straggler : (hand_back horizons_at_nine zeros 0 (emits 1 0 9 ∷ [])).answer ≡ Committed 8
  -- "next sequence number would pass 2^64 - 1"
  pub last_sequence_number : AnswersWith (λ c. add_initial sequence_exhausted c (message 0 1 2)) 19 [] sequence_exhausted
  -- "in id order, take the first eligible event of each process while used + taken < budget": two, then one; and begin "sets this run's used count to 0".
  pub three_taken : answers pair three_of_four
      ≡ (Accepted ∷ Accepted ∷ Accepted ∷ Accepted ∷ Accepted
      ∷ Batch (event 0 0 0 0 ∷ event 0 1 0 2 ∷ []) 0 ∷ Committed 0
      ∷ Batch (event 0 0 1 1 ∷ []) 0 ∷ Refused (Answers.EventBudgetExceeded 3)
      ∷ Accepted ∷ Batch (event 0 1 1 3 ∷ []) 0 ∷ [])
  -- The hand back raised the local horizons already, so the step raises bounds alone: it answers Advanced, with two null messages.
  pub bounds_alone : answers pair one_step_more ≡ (Accepted ∷ Accepted ∷ Batch (event 0 1 2 0 ∷ []) 0 ∷ Committed 2 ∷ Advanced 2 ∷ [])
  pub bounds_alone_counted : null_messages_counted pair one_step_more ≡ (0 ∷ 0 ∷ 0 ∷ 0 ∷ 2 ∷ [])
  -- "Counters .. stop at 2^64 - 1."
  pub counters_stop : (hand_back in_hand_holds full_counters 0 (emits 1 0 5 ∷ [])).counters ≡ full_counters
  -- A.2: "A state where it is wrong is foreign (11)", whichever process it is wrong of.
  pub wrong_record_holds : AnswersWith (λ c. hand_back wrong_second c 0 []) 11 [] wrong_second
  -- "the largest tick for a process without inbound edges", from build on. The first advance raises the bounds of 0→2, 1→2 and 2→0 to 6, 10 and 6: the least into 2 is 6.
  pub record_built : (built one_way).inbound ≡ (max_tick ∷ 3 ∷ [])
  pub record_advanced : (state_after (built two_into_one) zeros (Begin 9 budget ∷ Step ∷ [])).inbound ≡ (6 ∷ max_tick ∷ 6 ∷ [])
  -- "a frontier is read as the lesser of it and H": process 0 has no inbound edge, and an event behind the horizon waits.
  pub behind_horizon : answers one_way (AddInitial (message 0 0 10) ∷ Begin 9 budget ∷ Step ∷ []) ≡ (Accepted ∷ Accepted ∷ Advanced 2 ∷ [])
  -- A.3: "Frontiers before the advance still decide". Process 0 is held by H = 10 alone, and 1 by the bound 3 of 0→1, so the bounds of 0→1 and 1→2 rise to 10 and 6, all at once or edge by edge. Read anew at 1→2, the frontier of 1 would be 10 already.
  pub bounds_at_once : bounds_left (advance chain_run zeros 9) ≡ (10 ∷ 6 ∷ [])
  pub bounds_in_place : bounds_left (advance_in_place chain_run zeros 9) ≡ (10 ∷ 6 ∷ [])
  pub bounds_read_anew : bounds_left (advance_reading_anew chain_run zeros 9) ≡ (10 ∷ 10 ∷ [])
  pub chain_steps : answers chain (Begin 9 budget ∷ Step ∷ Step ∷ Step ∷ Step ∷ []) ≡ (Accepted ∷ Advanced 2 ∷ Advanced 5 ∷ Advanced 9 ∷ Finished 9 ∷ [])
  pub chain_null_messages : null_messages_counted chain (Begin 9 budget ∷ Step ∷ Step ∷ Step ∷ Step ∷ []) ≡ (0 ∷ 2 ∷ 3 ∷ 3 ∷ 3 ∷ [])
  -- Plan: 36 before 35, and the lent list as it was.
  pub short_list_first : plan 2 3 (entity 1 ∷ entity 1 ∷ []) (entity 9 ∷ []) ≡ record { answer = Refused Answers.TooManyEntities; list = entity 9 ∷ [] }
