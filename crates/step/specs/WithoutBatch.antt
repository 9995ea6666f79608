-- What a step that takes nothing asks and leaves, in the words of the rules.
use Rattle.std.specs.Prelude.{◌≡◌, true, false, List, ℕ, Result, Ok, Err}
use Rattle.types.specs.Value.{ticks_of}
use Rattle.records.specs.Records.{events_of}
use Rattle.rules.specs.Base.{non_empty}
use Rattle.rules.specs.State as R
use Rattle.rules.specs.State.{Event, State}
use Rattle.rules.specs.Rows.{Out, out}
use Rattle.rules.specs.Step.{taken_at, unless_spent, count_advance}
use Rattle.rules.specs.InPlace.{advance_in_place}
use Rattle.rules.proofs.Cases
use Rattle.state.specs.declared.Header.{Header}
use Rattle.state.specs.declared.Counters.{Counters}
use Rattle.state.specs.declared.Answer.{Answer}
use Rattle.state.specs.declared.Answer.TheVariants as D
use Rattle.state.specs.declared.Refusal.{Refusal}
use Rattle.state.specs.declared.Refusal.TheVariants as P
use Rattle.state.specs.declared.CoreResult.{CoreResult}
use Rattle.state.specs.View.{view, counters_of, answer_of}
use Rattle.state.specs.Headers.{closed_header}
use Rattle.state.specs.AsGiven.{leaves_state_as_given}
use Rattle.step_advance.specs.declared.Advanced.{Advanced}

-- A step of s, in a run with horizon h and budget b, that takes nothing.
pub record NothingTaken (s : State) (h b : ℕ) : Type 0 where
  pub steps : Cases.Steps s h b
  pub none_taken : non_empty (taken_at s h b).events ≡ false

-- 24, or an advance as A.3 has it, bounds written one by one.
unfoldable pub without_batch : State → R.Counters → ℕ → ℕ → Out
without_batch s c horizon budget = unless_spent s c horizon budget (advance_in_place s c horizon)

-- Answer, state and counters are those, whatever the batch is; and the answer is none that leaves the state as given.
pub record AdvancesOrRefuses (h : Header) (c : Counters) (edges pending processes : List ℕ) (r : CoreResult) (edges' processes' : List ℕ) : Type 0 where
  pub gives : (B : List ℕ) → NothingTaken (view h edges pending processes B) (ticks_of h.horizon) h.budget
      → out (answer_of (events_of r.head.batch B) r.answer) (view r.head edges' pending processes' B) (counters_of r.counters) ≡ without_batch (view h edges pending processes B) (counters_of c) (ticks_of h.horizon) h.budget
  pub moves : (es : List Event) → leaves_state_as_given (answer_of es r.answer) ≡ false

-- The run is closed, with the answer a: by 24, or because it is complete.
abbrev pub closed_with : Result Answer Refusal → Header → Counters → CoreResult
closed_with a h c = record { answer = a; head = closed_header h; counters = c }

abbrev pub spent_of : Header → Counters → CoreResult
spent_of h c = closed_with (Err (P.EventBudgetExceeded h.budget)) h c

abbrev pub finished_of : Header → Counters → CoreResult
finished_of h c = closed_with (Ok (D.Finished h.gvt)) h c

-- Something rose, k edge bounds among it.
pub record Rises (h : Header) (c : Counters) (k : ℕ) (r : CoreResult) : Type 0 where
  pub after : r ≡ record { answer = Ok (D.Advanced h.gvt); head = h; counters = r.counters }
  pub counted : counters_of r.counters ≡ count_advance (counters_of c) k

-- What the advance r is answered with.
pub record Answered (r : Advanced) (c : Counters) (q : CoreResult) : Type 0 where
  pub up : r.rose ≡ true → Rises r.head c r.raised q
  pub none_up : r.rose ≡ false → q ≡ finished_of r.head c
