-- How the counts on a list of calls and answers change with one more call.
use mathlib.Core.Path.{◌≡◌, refl}
use mathlib.Core.Bool.{Bool, true, false, not, ◌&&◌}
use mathlib.Core.List.{List, [], ◌∷◌}
use Prim.Native.Nat.{ℕ, ◌+◌, max}
use native.Mathlib.Omega.{arith}
use lib.Dec.{eqb}
use lib.ListN.{length}
use Rattle.rules.specs.Base.{if◌then◌otherwise◌, count}
use Rattle.rules.specs.State.{Event}
use Rattle.rules.specs.Answers.{Answer, Batch, number}
use Rattle.rules.specs.HandBack.{Emission, is_remote}
use Rattle.rules.specs.Calls.{Call}
use Rattle.rules.specs.History.{Entry, is_hand_back, emissions, is_advanced, is_batch, events, initials, begins, adds, in_hand, commits, handled, emitted, remote, rounds, null_message_count, worker_count_of, used}

-- A test that fails or holds of one more.
pub counts_off : {A : Type 0} (f : A → Bool) (x : A) (xs : List A) → f x ≡ false → count f (x ∷ xs) ≡ count f xs
unfolding count if◌then◌otherwise◌
counts_off f x xs e = rw e (omega arith)

pub counts_on : {A : Type 0} (f : A → Bool) (x : A) (xs : List A) → f x ≡ true → count f (x ∷ xs) ≡ count f xs + 1
unfolding count if◌then◌otherwise◌
counts_on f x xs e = rw e (omega arith)

abbrev pub entry_of : Call → Answer → ℕ → Entry
entry_of k a r = record { call = k; answer = a; raises = r }

-- Handled, emitted, remote and worker count: a call that is no hand back that commits leaves them.
pub record Unhandled (es fs : List Entry) : Type 0 where
  pub handled : handled fs ≡ handled es
  pub emitted : emitted fs ≡ emitted es
  pub remote : remote fs ≡ remote es
  pub worker_count : worker_count_of fs ≡ worker_count_of es

pub unhandled : (e : Entry) (es : List Entry) → commits e ≡ false → Unhandled es (e ∷ es)
unfolding if◌then◌otherwise◌ handled emitted remote worker_count_of
unhandled e es c = record { handled = rw c (omega arith); emitted = rw c (omega arith); remote = rw c (omega arith); worker_count = rw c }

-- One that commits counts what was in hand and its emissions.
pub record Handles (xs : List Emission) (es fs : List Entry) : Type 0 where
  pub handled : handled fs ≡ handled es + length (in_hand es)
  pub emitted : emitted fs ≡ emitted es + length xs
  pub remote : remote fs ≡ remote es + count is_remote xs
  pub worker_count : worker_count_of fs ≡ max (worker_count_of es) (length (in_hand es))

pub handles : (e : Entry) (es : List Entry) → commits e ≡ true → Handles (emissions e.call) es (e ∷ es)
unfolding if◌then◌otherwise◌ handled emitted remote worker_count_of
handles e es c = record { handled = rw c (omega arith); emitted = rw c (omega arith); remote = rw c (omega arith); worker_count = rw c }

-- Rounds and null messages: k more rounds and j more null messages.
pub record Turns (k j : ℕ) (es fs : List Entry) : Type 0 where
  pub rounds : rounds fs ≡ rounds es + k
  pub null_messages : null_message_count fs ≡ null_message_count es + j

pub no_turn : (e : Entry) (es : List Entry) → commits e ≡ false → is_advanced e.answer ≡ false → Turns 0 0 es (e ∷ es)
unfolding if◌then◌otherwise◌ rounds null_message_count
no_turn e es c a = record { rounds = omega (arith, counts_off commits e es c, counts_off (λ x. is_advanced x.answer) e es a); null_messages = rw a (omega arith) }

pub commit_turn : (e : Entry) (es : List Entry) → commits e ≡ true → is_advanced e.answer ≡ false → Turns 1 0 es (e ∷ es)
unfolding if◌then◌otherwise◌ rounds null_message_count
commit_turn e es c a = record { rounds = omega (arith, counts_on commits e es c, counts_off (λ x. is_advanced x.answer) e es a); null_messages = rw a (omega arith) }

pub advance_turn : (e : Entry) (es : List Entry) → commits e ≡ false → is_advanced e.answer ≡ true → Turns 1 e.raises es (e ∷ es)
unfolding if◌then◌otherwise◌ rounds null_message_count
advance_turn e es c a = record { rounds = omega (arith, counts_off commits e es c, counts_on (λ x. is_advanced x.answer) e es a); null_messages = rw a (omega arith) }

-- Initial events.
pub no_initial : (e : Entry) (es : List Entry) → adds e ≡ false → initials (e ∷ es) ≡ initials es
unfolding initials
no_initial e es a = counts_off adds e es a

pub one_initial : (e : Entry) (es : List Entry) → adds e ≡ true → initials (e ∷ es) ≡ initials es + 1
unfolding initials
one_initial e es a = counts_on adds e es a

-- The events handled in this run.
pub used_same : (e : Entry) (es : List Entry) → begins e ≡ false → commits e ≡ false → used (e ∷ es) ≡ used es
unfolding if◌then◌otherwise◌ used
used_same e es b c = rw (b, c) (omega arith)

pub used_more : (e : Entry) (es : List Entry) → begins e ≡ false → commits e ≡ true → used (e ∷ es) ≡ used es + length (in_hand es)
unfolding if◌then◌otherwise◌ used
used_more e es b c = rw (b, c) (omega arith)

pub used_anew : (e : Entry) (es : List Entry) → begins e ≡ true → used (e ∷ es) ≡ 0
unfolding if◌then◌otherwise◌ used
used_anew e es b = rw b

-- What is in hand after a batch, after a hand back that did not get 26, and after any other call.
pub hand_batch : (k : Call) (bs : List Event) (g r : ℕ) (es : List Entry) → in_hand (entry_of k (Batch bs g) r ∷ es) ≡ bs
unfolding if◌then◌otherwise◌ in_hand is_batch events
hand_batch k bs g r es = refl

pub hand_gone : (e : Entry) (es : List Entry) → is_batch e.answer ≡ false → is_hand_back e.call ≡ true → eqb (number e.answer) 26 ≡ false → in_hand (e ∷ es) ≡ []
unfolding if◌then◌otherwise◌ in_hand
hand_gone e es b h n = rw (b, h, n)

pub hand_stays : (e : Entry) (es : List Entry) → is_batch e.answer ≡ false → is_hand_back e.call && not (eqb (number e.answer) 26) ≡ false → in_hand (e ∷ es) ≡ in_hand es
unfolding if◌then◌otherwise◌ in_hand
hand_stays e es b h = rw (b, h)
