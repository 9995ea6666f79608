-- Which answers leave the state as given: document 01, column "Left".
use Rattle.std.specs.Prelude.{◌≡◌, Bool, List, [], ◌∷◌, ℕ, eqb}
use Rattle.rules.specs.Base.{any_of}
use Rattle.rules.specs.Answers.{Answer, number}
use Rattle.rules.specs.Calls.{Call, AddInitial, Begin, Step, HandBack}
use Rattle.rules.specs.History.{refused}
use Rattle.state.specs.declared.Header.{Header}
use Rattle.state.specs.declared.Counters.{Counters}
use Rattle.state.specs.declared.CoreResult.{CoreResult}

-- Of a step or a hand back: 11, 12, 23, 25 and 26. (12 of step's last branch leaves it poisoned, but that branch is never reached.)
unfoldable pub leaves_state_as_given : Answer → Bool
leaves_state_as_given a = any_of (eqb (number a) 11 ∷ eqb (number a) 12 ∷ eqb (number a) 23 ∷ eqb (number a) 25 ∷ eqb (number a) 26 ∷ [])

-- Of add initial and begin: every refusal.
unfoldable pub as_given : Call → Answer → Bool
as_given (AddInitial m) a = refused a
as_given (Begin h b) a = refused a
as_given Step a = leaves_state_as_given a
as_given (HandBack mask xs) a = leaves_state_as_given a

-- Header, counters and words are all as they were.
pub record SameAsGiven (h : Header) (c : Counters) (edges pending processes batch : List ℕ) (r : CoreResult) (edges' pending' processes' batch' : List ℕ) : Type 0 where
  pub same_head : r.head ≡ h
  pub same_counters : r.counters ≡ c
  pub same_edges : edges' ≡ edges
  pub same_pending : pending' ≡ pending
  pub same_processes : processes' ≡ processes
  pub same_batch : batch' ≡ batch
