-- What carrying out a call from words promises: document 01's rule.
use Rattle.std.specs.Prelude.{◌≡◌, List, ℕ, ◌*◌, ◌≤◌, ◌<◌, length, get_or}
use Rattle.records.specs.Records.{events_of}
use Rattle.rules.specs.Answers.{number, values}
use Rattle.rules.specs.Rows.{out}
use Rattle.rules.specs.Calls.{Call, rule}
use Rattle.state.specs.declared.Header.{Header}
use Rattle.state.specs.declared.Counters.{Counters}
use Rattle.state.specs.declared.CoreResult.{CoreResult}
use Rattle.state.specs.View.{view, counters_of, answer_of}
use Rattle.state.specs.Numbers.{number_of, values_of}
use Rattle.state.specs.ValidArrays.{ValidArrays}
use Rattle.state.specs.declared.HeaderResult.{HeaderResult}
use Rattle.schedule_initial.specs.AddsInitial.{CanEnqueue}
use Rattle.call_words.specs.Decode.{decode, size}

-- Answer, state and counters are what the rule gives for the call k.
pub record Executes (k : Call) (h : Header) (c : Counters) (edges pending processes batch : List ℕ) (r : CoreResult) (edges' pending' processes' batch' : List ℕ) : Type 0 where
  pub gives : out (answer_of (events_of r.head.batch batch') r.answer) (view r.head edges' pending' processes' batch') (counters_of r.counters) ≡ rule (view h edges pending processes batch) (counters_of c) k
  -- The answer's number and values are document 01's.
  pub number_is : number_of r.answer ≡ number (rule (view h edges pending processes batch) (counters_of c) k).answer
  pub values_are : values_of (events_of r.head.batch batch') r.answer ≡ values (rule (view h edges pending processes batch) (counters_of c) k).answer

-- The same of add initial and begin, whatever the arrays are that these are not lent.
abbrev pub ExecutesAddOrBegin : Call → Header → Counters → List ℕ → List ℕ → CoreResult → List ℕ → Type 0
ExecutesAddOrBegin k h c E P r P' = (Z B : List ℕ) → ValidArrays h E P Z B → Executes k h c E P Z B r E P' Z B

-- What is asked for that: one of the two can be decoded at the place, and what add initial asks.
pub record CanAddOrBegin (h : Header) (edges pending w : List ℕ) (at : ℕ) : Type 0 where
  pub edges_there : 6 * h.edges ≤ length edges
  pub queueable : CanEnqueue h pending
  pub some : 0 < size (decode w at)
  pub tag : get_or w at 0 < 2

-- They leave the counters as they are.
abbrev pub with_counters : HeaderResult → Counters → CoreResult
with_counters r c = record { answer = r.answer; head = r.head; counters = c }

abbrev pub AddsOrBegins : Call → Header → List ℕ → List ℕ → HeaderResult → List ℕ → Type 0
AddsOrBegins k h E P r P' = (c : Counters) → ExecutesAddOrBegin k h c E P (with_counters r c) P'
