-- What the core of begin promises: answer and state are what the rule gives, of every state that 11 lets pass.
use Rattle.std.specs.Prelude.{◌≡◌, true, false, List, ℕ, Result, Ok, Err}
use Rattle.types.specs.declared.SimTime.{SimTime}
use Rattle.types.specs.Value.{ticks_of}
use Rattle.rules.specs.State.{Event, Counters}
use Rattle.rules.specs.Rows.{out}
use Rattle.rules.specs.Foreign.{foreign}
use Rattle.rules.specs.Begin.{begin}
use Rattle.rules.specs.History.{refused}
use Rattle.state.specs.declared.Header.{Header}
use Rattle.state.specs.declared.Answer.TheVariants.{Accepted}
use Rattle.state.specs.declared.Refusal.{Refusal}
use Rattle.state.specs.View.{view, answer_of}
use Rattle.state.specs.Headers.{running_header}
use Rattle.state.specs.RefusalOr.{RefusalOr}
use Rattle.records.specs.Records.{events_of}
use Rattle.state.specs.declared.HeaderResult.{HeaderResult}

-- Whatever the arrays and the counters are: begin touches none of them.
pub record Begins (h : Header) (horizon : SimTime) (budget : ℕ) (r : HeaderResult) : Type 0 where
  pub gives : (E P Z B : List ℕ) (c : Counters) → foreign (view h E P Z B) ≡ false
      → out (answer_of (events_of r.head.batch B) r.answer) (view r.head E P Z B) c ≡ begin (view h E P Z B) c (ticks_of horizon) budget
  pub kept : (es : List Event) → refused (answer_of es r.answer) ≡ true → r.head ≡ h

-- The rows' answer, whatever the budget is: a run begins, or all is left as given.
abbrev pub BeginRefusal : Header → SimTime → Result (Unit {0}) Refusal → Type 0
BeginRefusal h t r = RefusalOr r
    ((b : ℕ) → Begins h t b (record { answer = Ok Accepted; head = running_header h t b }))
    (λ e. (b : ℕ) → Begins h t b (record { answer = Err e; head = h }))
