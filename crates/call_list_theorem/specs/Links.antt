-- A list of calls carried out by the program, each on the runtime and the counters that the one before left.
use Rattle.std.specs.Prelude.{List, [], ◌∷◌, map, Result}
use Rattle.rules.specs.State.{State}
use Rattle.rules.specs.Rows.{Out, out}
use Rattle.rules.specs.Calls.{Call}
use Rattle.rules.specs.History.{Entry, History, entry}
use Rattle.state.specs.declared.Runtime.{Runtime}
use Rattle.state.specs.declared.Counters.{Counters}
use Rattle.state.specs.declared.Answer.{Answer}
use Rattle.state.specs.declared.Refusal.{Refusal}
use Rattle.state.specs.View.{view_of, counters_of, answer_of}
use Rattle.runtime.specs.declared.BuildResult.{BuildResult}
use Rattle.runtime.specs.Executes.{Executes}

-- A call, what the program answered, and the runtime and the counters that it left.
pub record Link : Type 0 where
  pub call : Call
  pub answer : Result Answer Refusal
  pub state : Runtime
  pub counters : Counters

-- Each link holds the contract of its call, from what the link before it left.
abbrev pub Executed : Runtime → Counters → List Link → Type 0
Executed s c [] = Unit {0}
Executed s c (l ∷ ls) = Executes l.call s c l.answer l.state l.counters × Executed l.state l.counters ls

-- What is left after the list: of an empty one, what was there before it.
abbrev pub state_left : Runtime → List Link → Runtime
state_left s [] = s
state_left s (l ∷ ls) = state_left l.state ls

abbrev pub counters_left : Counters → List Link → Counters
counters_left c [] = c
counters_left c (l ∷ ls) = counters_left l.counters ls

-- "the calls' other arguments, never .. the program's state or counters"
abbrev pub calls_of : List Link → List Call
calls_of ls = map (λ (l : Link). l.call) ls

-- "Compared after each call are the answer, the counters, .. and whether initial events are open, a run is open and the runtime is poisoned."
abbrev pub out_of : Link → Out
out_of l = out (answer_of (view_of l.state).batch l.answer) (view_of l.state) (counters_of l.counters)

-- The calls and what the program answered, from the state s on, ahead of the entries es; the last call first.
abbrev pub recorded : State → List Entry → List Link → List Entry
recorded s es [] = es
recorded s es (l ∷ ls) = recorded (view_of l.state) (entry s l.call (out_of l) ∷ es) ls

-- The history of the list on the runtime that build gave. It is made of the program's answers, states and counters alone.
abbrev pub history : BuildResult → List Link → History
history r ls = record {
  entries = recorded (view_of r.state) [] ls;
  now = view_of (state_left r.state ls);
  counters = counters_of (counters_left r.counters ls);
}
