-- What every read promises: document 01's rule, on every state, foreign ones among them.
use Rattle.std.specs.Prelude.{◌≡◌, Result, Ok, Err}
use Rattle.types.specs.Value.{ticks_of}
use Rattle.rules.specs.State as R
use Rattle.rules.specs.State.{State}
use Rattle.rules.specs.Answers as A
use Rattle.rules.specs.Answers.{number, values}
use Rattle.rules.specs.Rows.{Out, out}
use Rattle.state.specs.declared.Runtime.{Runtime}
use Rattle.state.specs.declared.Counters.{Counters}
use Rattle.state.specs.View.{view_of, counters_of}
use Rattle.state.specs.declared.Refusal.{Refusal}
use Rattle.state.specs.View.{refusal_of}
use Rattle.reads.specs.declared.Reading.{Reading}
use Rattle.reads.specs.declared.Reading.TheVariants as P
use Rattle.reads.specs.Numbers.{number_of, values_of}

-- The rules' answer that each answer stands for.
abbrev pub read_of : Result Reading Refusal → A.Answer
read_of (Ok (P.Gvt g)) = A.Read (A.Gvt (ticks_of g))
read_of (Ok (P.Counted c u)) = A.Read (A.Counted (counters_of c) u)
read_of (Ok (P.Pending k)) = A.Read (A.Pending k)
read_of (Ok (P.Earliest t)) = A.Read (A.Earliest (ticks_of t))
read_of (Err r) = A.Refused (refusal_of r)

-- Of the runtime s and the counters c, the read whose rule is `rule` answers a: with it, s and c as given are what the rule gives.
pub record Reads (rule : State → R.Counters → Out) (s : Runtime) (c : Counters) (a : Result Reading Refusal) : Type 0 where
  pub gives : out (read_of a) (view_of s) (counters_of c) ≡ rule (view_of s) (counters_of c)
  -- .. and so are document 01's number and values of it.
  pub number_is : number_of a ≡ number (rule (view_of s) (counters_of c)).answer
  pub values_are : values_of a ≡ values (rule (view_of s) (counters_of c)).answer
