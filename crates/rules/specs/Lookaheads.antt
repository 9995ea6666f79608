-- Computed cases of A.4, lookahead per edge: where edges of one runtime differ, and 40 among the other refusals of build.
use Rattle.std.specs.Prelude.{◌≡◌, true, false, List, [], ◌∷◌, map, ℕ, ◌-◌, ◌^◌}
use Rattle.rules.specs.State.{Edge, unset, State, zeros}
use Rattle.rules.specs.Answers
use Rattle.rules.specs.Answers.{Accepted, Batch, Advanced, Finished, Committed, Refused, number, values}
use Rattle.rules.specs.Build.{Setup, setup, built, build}
use Rattle.rules.specs.Calls.{Call, AddInitial, Begin, Step, HandBack}
use Rattle.rules.specs.Step.{step}
use Rattle.rules.specs.History.{L}
use Rattle.rules.specs.Rehearsals.{answers, numbers, returned, rounds_counted, null_messages_counted, budget, message, event, emits}
use Rattle.rules.specs.Slips.{AnswersWith}

-- A shutter 0 and a stage 1, both ahead of the camera 2: the edge 0→2 has lookahead 1, 1→2 has 10, the plan's own is 5.
unfoldable pub fast_and_slow : Setup
fast_and_slow = setup 3 5 (0 ∷ 1 ∷ 2 ∷ []) (0 ∷ 1 ∷ 2 ∷ []) (1 ∷ 1 ∷ 0 ∷ []) (2 ∷ 2 ∷ []) (1 ∷ 10 ∷ [])

-- 0→1 and 1→0 with lookahead 1, inside 1→2 and 2→0 with 10; the plan's own is 5.
unfoldable pub fast_cycle : Setup
fast_cycle = setup 3 5 (0 ∷ 1 ∷ 2 ∷ []) (0 ∷ 1 ∷ 2 ∷ []) (1 ∷ 2 ∷ 1 ∷ []) (1 ∷ 0 ∷ 2 ∷ 0 ∷ []) (1 ∷ 1 ∷ 10 ∷ 10 ∷ [])

-- 0→1 with lookahead 3 and 0→2 with 10.
unfoldable pub near_and_far : Setup
near_and_far = setup 3 5 (0 ∷ 1 ∷ 2 ∷ []) (0 ∷ 1 ∷ 2 ∷ []) (2 ∷ 0 ∷ 0 ∷ []) (1 ∷ 2 ∷ []) (3 ∷ 10 ∷ [])

-- The initial event a→2 at t, horizon 9, two steps.
abbrev pub to_the_camera : ℕ → ℕ → List Call
to_the_camera a t = AddInitial (message a 2 t) ∷ Begin 9 budget ∷ Step ∷ Step ∷ []

-- The process p has its event at 2 in hand and emits to 2 at t.
abbrev pub emitting : ℕ → ℕ → List Call
emitting p t = AddInitial (message p p 2) ∷ Begin 9 budget ∷ Step ∷ HandBack 0 (emits p 2 t ∷ []) ∷ []

-- Five steps to horizon 3.
abbrev pub to_three : List Call
to_three = Begin 3 budget ∷ Step ∷ Step ∷ Step ∷ Step ∷ Step ∷ []

-- Process 0 has its event at 2^128 - 5 in hand and emits to q at t.
abbrev pub near_the_top : ℕ → ℕ → List Call
near_the_top q t = AddInitial (message 0 0 (2 ^ 128 - 5)) ∷ Begin (2 ^ 128 - 2) budget ∷ Step ∷ HandBack 0 (emits 0 q t ∷ []) ∷ []

-- Number and values of what build answers to two processes with these rows, destinations and lookaheads.
pub record Told : Type 0 where
  pub number : ℕ
  pub values : List ℕ

unfoldable pub build_tells : ℕ → List ℕ → List ℕ → List ℕ → List ℕ → Told
build_tells plan sources counts ds ls = let a = (build (setup 2 plan (0 ∷ 1 ∷ []) sources counts ds ls) zeros).answer in record { number = number a; values = values a }

abbrev pub told : ℕ → List ℕ → Told
told k vs = record { number = k; values = vs }

-- The edges 0→1 with lookahead 0 and 1→0 with 3, bounds 3.
abbrev pub zero_lookahead : State
zero_lookahead = record { n = 2; lookahead = 3; edges = record { source = 0; destination = 1; lookahead = 0; bound = 3 } ∷ record { source = 1; destination = 0; lookahead = 3; bound = 3 } ∷ []; pending = []; next = 0; horizons = 0 ∷ 0 ∷ []; inbound = 3 ∷ 3 ∷ []; gvt = 0; stored = unset; used = 0; batch = []; initial = true; running = false; poisoned = false }

pub record LookaheadCases : Type 0 where
  -- Bounds start at each edge's own lookahead, and the record at the least into a process.
  pub bounds : map (λ (e : Edge). e.bound) (built fast_and_slow).edges ≡ (1 ∷ 10 ∷ [])
  pub least_into_holds : (built fast_and_slow).inbound ≡ ((2 ^ 128 - 1) ∷ (2 ^ 128 - 1) ∷ 1 ∷ [])
  -- A fast and a slow edge into one process: the fast one holds it back, whoever sent the event. At 0 the batch is first, at 1 an advance.
  pub slow_sender_early : answers fast_and_slow (to_the_camera 1 0) ≡ (Accepted ∷ Accepted ∷ Batch (event 1 2 0 0 ∷ []) 0 ∷ Refused Answers.NothingToStep ∷ [])
  pub slow_sender_late : answers fast_and_slow (to_the_camera 1 1) ≡ (Accepted ∷ Accepted ∷ Advanced 0 ∷ Batch (event 1 2 1 0 ∷ []) 0 ∷ [])
  -- Each is judged by its own edge: 3 is early enough from 0, and 12 is the minimum from 1.
  pub fast_committed : numbers fast_and_slow (emitting 0 3) ≡ (0 ∷ 0 ∷ 0 ∷ 0 ∷ [])
  pub fast_refused : returned fast_and_slow (emitting 0 2) ≡ ([] ∷ [] ∷ (0 ∷ 0 ∷ 2 ∷ 0 ∷ 0 ∷ 0 ∷ []) ∷ (0 ∷ 2 ∷ 2 ∷ 3 ∷ []) ∷ [])
  pub slow_refused : answers fast_and_slow (emitting 1 11) ≡ (Accepted ∷ Accepted ∷ Batch (event 1 1 2 0 ∷ []) 0 ∷ Refused (Answers.OutboundLookaheadViolation 1 2 11 12) ∷ [])
  pub slow_committed : numbers fast_and_slow (emitting 1 12) ≡ (0 ∷ 0 ∷ 0 ∷ 0 ∷ [])
  -- A fast cycle inside a slow graph: its bounds rise by 1, the slow edges' are at the end from the first. L is 1: with 10 or the plan's 5 for L, 4 rounds would be above floor(4 / L) + 2.
  pub cycle : answers fast_cycle to_three ≡ (Accepted ∷ Advanced 0 ∷ Advanced 1 ∷ Advanced 2 ∷ Advanced 3 ∷ Finished 3 ∷ [])
  pub cycle_rounds : rounds_counted fast_cycle to_three ≡ (0 ∷ 1 ∷ 2 ∷ 3 ∷ 4 ∷ 4 ∷ [])
  pub cycle_null_messages : null_messages_counted fast_cycle to_three ≡ (0 ∷ 2 ∷ 4 ∷ 6 ∷ 6 ∷ 6 ∷ [])
  pub cycle_least : L fast_cycle ≡ 1
  -- Without an edge L is the plan's.
  pub no_edge_least : L (setup 1 5 (0 ∷ []) (0 ∷ []) (0 ∷ []) [] []) ≡ 5
  -- 31 by one edge, with its lookahead, and not by the other.
  pub near_committed : numbers near_and_far (near_the_top 1 (2 ^ 128 - 2)) ≡ (0 ∷ 0 ∷ 0 ∷ 0 ∷ [])
  pub far_overflows : answers near_and_far (near_the_top 2 (2 ^ 128 - 1)) ≡ (Accepted ∷ Accepted ∷ Batch (event 0 0 (2 ^ 128 - 5) 0 ∷ []) 0 ∷ Refused (Answers.LookaheadOverflow 0 (2 ^ 128 - 5) 10) ∷ [])
  -- 40, "after 10 for that edge": 8, 9 and 10 of the same edge come before it.
  pub zero_refused : build_tells 3 (0 ∷ 1 ∷ []) (1 ∷ 1 ∷ []) (1 ∷ 0 ∷ []) (3 ∷ 0 ∷ []) ≡ told 40 []
  pub unknown_first : build_tells 3 (0 ∷ 1 ∷ []) (1 ∷ 0 ∷ []) (2 ∷ []) (0 ∷ []) ≡ told 8 (0 ∷ 2 ∷ [])
  pub self_first : build_tells 3 (0 ∷ 1 ∷ []) (1 ∷ 0 ∷ []) (0 ∷ []) (0 ∷ []) ≡ told 9 (0 ∷ [])
  pub twice_first : build_tells 3 (0 ∷ 1 ∷ []) (2 ∷ 0 ∷ []) (1 ∷ 1 ∷ []) (3 ∷ 0 ∷ []) ≡ told 10 (0 ∷ 1 ∷ [])
  -- .. and 40 of an earlier edge before 8 of a later one, and before 7 of a later row; 7 of its own row before it.
  pub before_unknown : build_tells 3 (0 ∷ 1 ∷ []) (2 ∷ 0 ∷ []) (1 ∷ 2 ∷ []) (0 ∷ 3 ∷ []) ≡ told 40 []
  pub before_row : build_tells 3 (0 ∷ 1 ∷ 2 ∷ []) (1 ∷ 0 ∷ 0 ∷ []) (1 ∷ []) (0 ∷ []) ≡ told 40 []
  pub row_first : build_tells 3 (0 ∷ 1 ∷ 2 ∷ []) (0 ∷ 0 ∷ 1 ∷ []) (0 ∷ []) (0 ∷ []) ≡ told 7 (2 ∷ [])
  -- Lookaheads too few and too many: 5. 2 judges the plan's own, whatever the edges have.
  pub too_few : build_tells 3 (0 ∷ 1 ∷ []) (1 ∷ 1 ∷ []) (1 ∷ 0 ∷ []) (3 ∷ []) ≡ told 5 []
  pub too_many : build_tells 3 (0 ∷ 1 ∷ []) (1 ∷ 1 ∷ []) (1 ∷ 0 ∷ []) (3 ∷ 3 ∷ 3 ∷ []) ≡ told 5 []
  pub plan_first : build_tells 0 (0 ∷ 1 ∷ []) (1 ∷ 1 ∷ []) (1 ∷ 0 ∷ []) (3 ∷ 3 ∷ []) ≡ told 2 []
  -- "A state with an edge lookahead of 0 is foreign."
  pub zero_foreign : AnswersWith (λ c. step zero_lookahead c) 11 [] zero_lookahead
