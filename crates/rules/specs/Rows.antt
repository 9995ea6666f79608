-- Refusals as a table: each row has its test and what it refuses with. The first row whose test holds decides.
use Rattle.std.specs.Prelude.{Bool, List, [], ◌∷◌}
use Rattle.rules.specs.Base.{if◌then◌otherwise◌}
use Rattle.rules.specs.State.{State, Counters}
use Rattle.rules.specs.Answers.{Refusal, Answer, Refused}

pub record Row : Type 0 where
  pub test : Bool
  pub refusal : Refusal

infix 25 ◌⇒◌
abbrev pub ◌⇒◌ : Bool → Refusal → Row
t ⇒ r = record { test = t; refusal = r }

-- What the first row whose test holds makes of its refusal, and `done` where there is none.
unfoldable pub unless : {A : Type 0} → List Row → (Refusal → A) → A → A
unless [] refuse done = done
unless (r ∷ rs) refuse done = if r.test then refuse r.refusal otherwise unless rs refuse done

-- What a call gives: its answer, the state and the counters left.
pub record Out : Type 0 where
  pub answer : Answer
  pub after : State
  pub counters : Counters

abbrev pub out : Answer → State → Counters → Out
out a s c = record { answer = a; after = s; counters = c }

-- What the last column calls "state as given".
abbrev pub refuse : State → Counters → Refusal → Out
refuse s c r = out (Refused r) s c
