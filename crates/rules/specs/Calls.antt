-- Lists of calls: add initial, begin, step and hand back with any arguments. Numbers have no widths here; the program's types give them theirs.
use Rattle.std.specs.Prelude.{List, [], ◌∷◌, ℕ}
use Rattle.rules.specs.State.{State, Counters, Message}
use Rattle.rules.specs.Rows.{Out}
use Rattle.rules.specs.Initial.{add_initial}
use Rattle.rules.specs.Begin.{begin}
use Rattle.rules.specs.Step.{step}
use Rattle.rules.specs.HandBack.{Emission, hand_back}

pub data Call : Type 0 where
  AddInitial : Message → Call
  Begin : ℕ → ℕ → Call
  Step : Call
  HandBack : ℕ → List Emission → Call

unfoldable pub rule : State → Counters → Call → Out
rule s c (AddInitial m) = add_initial s c m
rule s c (Begin h b) = begin s c h b
rule s c Step = step s c
rule s c (HandBack mask xs) = hand_back s c mask xs

-- What the calls of a list give, one after the other.
unfoldable pub execute : State → Counters → List Call → List Out
execute s c [] = []
execute s c (k ∷ ks) = let o = rule s c k in o ∷ execute o.after o.counters ks
