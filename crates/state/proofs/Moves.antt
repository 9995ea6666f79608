-- Answers that do not leave the state as given.
use mathlib.Core.Path.{◌≡◌, refl, sym}
use mathlib.Core.Bool.{false, true, true≢false}
use mathlib.Core.List.{List}
use Prim.Native.Nat.{ℕ}
use Rattle.rules.specs.Base.{any, any_of}
use Rattle.rules.specs.State.{Event, State, Counters}
use Rattle.rules.specs.Answers as A
use Rattle.rules.specs.Answers.{refusal_number, number}
use Rattle.rules.specs.Rows.{unless, Out}
use Rattle.rules.specs.HandBack.{Emission, process_rows, poison_with}
use Rattle.rules.proofs.Table.{by_firsts, firsts_all}
use Rattle.rules.proofs.Cases.{Poisons, poison_processes}
use Rattle.state.specs.AsGiven.{leaves_state_as_given}
use Rattle.rules.specs.History.{refused}

pub accepted_moves : {C : Type 0} → refused A.Accepted ≡ true → C
unfolding refused
accepted_moves x = absurd (true≢false (sym x))

pub batch_moves : (es : List Event) (g : ℕ) → leaves_state_as_given (A.Batch es g) ≡ false
unfolding leaves_state_as_given any_of any number
batch_moves es g = refl

pub advanced_moves : (g : ℕ) → leaves_state_as_given (A.Advanced g) ≡ false
unfolding leaves_state_as_given any_of any number
advanced_moves g = refl

pub finished_moves : (g : ℕ) → leaves_state_as_given (A.Finished g) ≡ false
unfolding leaves_state_as_given any_of any number
finished_moves g = refl

pub committed_moves : (g : ℕ) → leaves_state_as_given (A.Committed g) ≡ false
unfolding leaves_state_as_given any_of any number
committed_moves g = refl

pub spent_moves : (b : ℕ) → leaves_state_as_given (A.Refused (A.EventBudgetExceeded b)) ≡ false
unfolding leaves_state_as_given any_of any number refusal_number
spent_moves b = refl

-- Whatever poisons.
unfoldable pub Moving : A.Refusal → Type 0
Moving r = leaves_state_as_given (A.Refused r) ≡ false

pub moving : Poisons Moving
unfolding Moving leaves_state_as_given any_of any number refusal_number
moving = record {
  failed = λ p. refl;
  mismatch = λ p a. refl;
  unknown = λ b. refl;
  unrouted = λ a b. refl;
  overflow = λ p t m. refl;
  violation = λ p t u m. refl;
  straggler = λ b u h. refl;
  sequence = refl;
  full = refl;
}

pub overflow_moves : leaves_state_as_given (A.Refused A.EventSequenceOverflow) ≡ false
unfolding Moving
overflow_moves = moving.sequence

pub full_moves : leaves_state_as_given (A.Refused A.QueueFull) ≡ false
unfolding Moving
full_moves = moving.full

-- So where a row of the reply decides, the state is not left as given.
unfoldable Moved : Out → Type 0
Moved o = leaves_state_as_given o.answer ≡ false

pub lost_moves : (s t : State) (c : Counters) (mask : ℕ) (xs : List Emission) (es : List Event) (d : Out) → leaves_state_as_given d.answer ≡ false → leaves_state_as_given (unless (process_rows s mask xs es) (poison_with t c) d).answer ≡ false
unfolding Moving Moved
lost_moves s t c mask xs es d m =
    by_firsts Moved (process_rows s mask xs es) (poison_with t c) d
    (firsts_all (λ r. Moved (poison_with t c r)) (process_rows s mask xs es) (poison_processes Moving moving s mask xs es)) (λ _. m)
