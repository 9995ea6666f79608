-- What the core of a step asks and leaves, in the words of the rules.
use Rattle.std.specs.Prelude.{◌≡◌, true, false, List, ℕ, ◌^◌, ◌-◌, ◌≤◌, ◌<◌, length, Result, Ok, Err}
use Rattle.types.specs.Value.{ticks_of}
use Rattle.records.specs.Records.{events_of}
use Rattle.rules.specs.Base.{rising}
use Rattle.rules.specs.State.{Event, with_batch}
use Rattle.rules.specs.Pending.{before}
use Rattle.rules.specs.Rows.{out}
use Rattle.rules.specs.Step.{taken_at, step}
use Rattle.rules.proofs.Lists.{All}
use Rattle.state.specs.declared.Header.{Header}
use Rattle.state.specs.declared.Counters.{Counters}
use Rattle.state.specs.declared.Answer.TheVariants as D
use Rattle.state.specs.declared.Refusal.{Refusal}
use Rattle.state.specs.View.{view, counters_of, answer_of}
use Rattle.state.specs.Headers.{with_counts}
use Rattle.state.specs.ValidArrays.{ValidArrays}
use Rattle.state.specs.RefusalOr.{RefusalOr}
use Rattle.state.specs.AsGiven.{leaves_state_as_given, SameAsGiven}
use Rattle.state.specs.declared.CoreResult.{CoreResult}

pub record CanTakeBatch (h : Header) (pending processes batch : List ℕ) : Type 0 where
  pub few_processes : h.n ≤ 64
  pub few_pending : h.pending ≤ 512
  pub pending_words : length pending ≡ 4096
  pub process_words : length processes ≡ 256
  pub batch_words : length batch ≡ 512
  pub horizon : ticks_of h.horizon < 2 ^ 128 - 1
  pub order : rising before (events_of h.pending pending) ≡ true
  pub known : All (λ (e : Event). e.destination < h.n) (events_of h.pending pending)

-- The batch of the rules is in hand, whatever the edges are.
pub record HandsOut (h : Header) (pending processes batch : List ℕ) (r : Header) (pending' batch' : List ℕ) : Type 0 where
  pub head : r ≡ with_counts h r.pending r.batch
  pub state : (E : List ℕ) → let s = view h E pending processes batch in let t = taken_at s (ticks_of h.horizon) h.budget in view r E pending' processes batch' ≡ with_batch s t.events t.left
  pub none : r.batch ≡ 0 → (r.pending ≡ h.pending) × (events_of r.pending pending' ≡ events_of h.pending pending)

-- What the core of a step promises.
pub record Steps (h : Header) (c : Counters) (edges pending processes batch : List ℕ) (r : CoreResult) (edges' pending' processes' batch' : List ℕ) : Type 0 where
  pub gives : out (answer_of (events_of r.head.batch batch') r.answer) (view r.head edges' pending' processes' batch') (counters_of r.counters) ≡ step (view h edges pending processes batch) (counters_of c)
  pub kept : (es : List Event) → leaves_state_as_given (answer_of es r.answer) ≡ true → SameAsGiven h c edges pending processes batch r edges' pending' processes' batch'

-- 12 and 23 let the step pass.
pub record CanStep (h : Header) : Type 0 where
  pub healthy : h.poisoned ≡ false
  pub open_run : h.running ≡ true
  pub empty : h.batch ≡ 0

-- All is left as given, whatever the arrays are.
abbrev pub Refuses : Header → Counters → CoreResult → Type 0
Refuses h c r = (E P Z B : List ℕ) → ValidArrays h E P Z B → Steps h c E P Z B r E P Z B

-- What rows 12 and 23 answer, whatever the counters are; and they refuse only a step that may not be made.
abbrev pub StepRefusal : Header → Result (Unit {0}) Refusal → Type 0
StepRefusal h r = RefusalOr r (CanStep h) (λ e. (CanStep h → ⊥) × ((c : Counters) → Refuses h c (record { answer = Err e; head = h; counters = c })))

-- The batch in hand is answered.
abbrev pub batch_answered : Header → Counters → CoreResult
batch_answered h c = record { answer = Ok (D.Batch h.gvt); head = h; counters = c }
