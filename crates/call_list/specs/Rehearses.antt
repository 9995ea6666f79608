-- What a rehearsal promises: the rules' history of the decoded calls, and demand 3 of it.
use Rattle.std.specs.Prelude.{◌≡◌, List, ℕ, length, Result}
use Rattle.rules.specs.State as R
use Rattle.rules.specs.Answers.{Refusal, Accepted, Refused}
use Rattle.rules.specs.Build.{Setup, setup, build}
use Rattle.rules.specs.History.{History, empty_history, run_calls}
use Rattle.rules.specs.Demand.{Demanded}
use Rattle.state.specs.View.{view_of, counters_of, zero_counters}
use Rattle.build_topology.specs.Lookaheads.{lookaheads_for}
use Rattle.build.specs.declared.BuildRefusal.{BuildRefusal}
use Rattle.build.specs.Checks.{answer_of}
use Rattle.build.specs.Initialized.{empty_runtime}
use Rattle.call_words.specs.Decode.{decode_all}
use Rattle.call_list.specs.declared.RehearsalResult.{RehearsalResult}

-- The history of the decoded calls on what a build made.
abbrev pub history_of : Setup → List ℕ → History
history_of a w = run_calls (empty_history a) (decode_all w)

-- Its end is what is left.
pub record Leaves (a : Setup) (w : List ℕ) (r : RehearsalResult) : Type 0 where
  pub state : (history_of a w).now ≡ view_of r.state
  pub counters : (history_of a w).counters ≡ counters_of r.counters
  pub calls : r.calls ≡ length (decode_all w)

pub record RehearsesAccepted (n L : ℕ) (sources counts destinations lookaheads w : List ℕ) (r : RehearsalResult) : Type 0 where
  pub answered : answer_of r.answer ≡ Accepted
  pub leaves : (ids : List ℕ) → Leaves (setup n L ids sources counts destinations (lookaheads_for destinations lookaheads)) w r

-- What a refused build leaves: nothing made, and nothing counted or carried out.
abbrev pub refused_result : Result (Unit {0}) BuildRefusal → RehearsalResult
refused_result b = record { answer = b; state = empty_runtime; counters = zero_counters; calls = 0 }

pub record Rehearses (a : Setup) (w : List ℕ) (r : RehearsalResult) : Type 0 where
  -- The answer is build's, whatever the counters are.
  pub answered : (c : R.Counters) → answer_of r.answer ≡ (build a c).answer
  -- Of an accepted build: all calls of the words were carried out, and demand 3 holds of them.
  pub leaves : answer_of r.answer ≡ Accepted → Leaves a w r
  pub demanded : answer_of r.answer ≡ Accepted → Demanded a (history_of a w)
  pub refused : (why : Refusal) → answer_of r.answer ≡ Refused why → r ≡ refused_result r.answer
