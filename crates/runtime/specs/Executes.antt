-- What every call on a runtime promises: document 01's rule, on every state, foreign ones among them.
use Rattle.std.specs.Prelude.{◌≡◌, true, Result}
use Rattle.rules.specs.Answers.{number, values}
use Rattle.rules.specs.Rows.{out}
use Rattle.rules.specs.Calls.{Call, rule}
use Rattle.state.specs.declared.Runtime.{Runtime}
use Rattle.state.specs.declared.Counters.{Counters}
use Rattle.state.specs.declared.Answer.{Answer}
use Rattle.state.specs.declared.Refusal.{Refusal}
use Rattle.state.specs.View.{view_of, counters_of, answer_of}
use Rattle.state.specs.Numbers.{number_of, values_of}
use Rattle.state.specs.AsGiven.{as_given}

-- From the runtime s and the counters c, the call k answers a and leaves the runtime t and the counters d.
pub record Executes (k : Call) (s : Runtime) (c : Counters) (a : Result Answer Refusal) (t : Runtime) (d : Counters) : Type 0 where
  -- Answer, state and counters are what the rule gives.
  pub gives : out (answer_of (view_of t).batch a) (view_of t) (counters_of d) ≡ rule (view_of s) (counters_of c) k
  -- Its number and values are document 01's: "For any answer that is an enum, a definition gives this paper's number and values for each of its cases. The promises use that definition."
  pub number_is : number_of a ≡ number (rule (view_of s) (counters_of c) k).answer
  pub values_are : values_of (view_of t).batch a ≡ values (rule (view_of s) (counters_of c) k).answer
  -- "state as given": the whole of it, words that no rule reads among them.
  pub kept : as_given k (answer_of (view_of t).batch a) ≡ true → (t ≡ s) × (d ≡ c)
