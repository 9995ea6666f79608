-- What demand 3 counts, on the list of calls and answers: document 01, "Demand 3 is one statement about the list of calls as a whole".
use Rattle.std.specs.Prelude.{Bool, true, false, not, ◌&&◌, ◌||◌, List, [], ◌∷◌, ◌++◌, ℕ, suc, ◌+◌, max, eqb, length}
use Rattle.rules.specs.Base.{if◌then◌otherwise◌, count}
use Rattle.rules.specs.State.{Event, State, Counters, zeros}
use Rattle.rules.specs.Answers.{Answer, Accepted, Batch, Advanced, Finished, Committed, Read, Planned, Refused, number}
use Rattle.rules.specs.Rows.{Out}
use Rattle.rules.specs.Build.{Setup, least_lookahead, built}
use Rattle.rules.specs.Step.{count_raised}
use Rattle.rules.specs.HandBack.{Emission, is_remote}
use Rattle.rules.specs.Calls.{Call, AddInitial, Begin, Step, HandBack, rule}

-- A call, what it answered, and how many edge bounds stand higher after it than before.
pub record Entry : Type 0 where
  pub call : Call
  pub answer : Answer
  pub raises : ℕ

-- The calls so far, the last one first, with the state and the counters that they left.
pub record History : Type 0 where
  pub entries : List Entry
  pub now : State
  pub counters : Counters

abbrev pub entry : State → Call → Out → Entry
entry s k o = record { call = k; answer = o.answer; raises = count_raised s.edges o.after.edges }

abbrev pub append_call : History → Call → Out → History
append_call y k o = record { entries = entry y.now k o ∷ y.entries; now = o.after; counters = o.counters }

-- "The rules start from what build makes", of the setup a.
abbrev pub empty_history : Setup → History
empty_history a = record { entries = []; now = built a; counters = zeros }

-- "In it L and E are the lookahead and the edges given to build"; A.4: for L "read the least edge lookahead, or the plan's if there is no edge".
abbrev pub L : Setup → ℕ
L a = least_lookahead a.lookahead a.lookaheads

abbrev pub E : Setup → ℕ
E a = length a.destinations

unfoldable pub run_calls : History → List Call → History
run_calls y [] = y
run_calls y (k ∷ ks) = run_calls (append_call y k (rule y.now y.counters k)) ks

-- What a call is and was given.
unfoldable pub is_initial : Call → Bool
is_initial (AddInitial m) = true
is_initial (Begin h b) = false
is_initial Step = false
is_initial (HandBack mask xs) = false

unfoldable pub is_begin : Call → Bool
is_begin (AddInitial m) = false
is_begin (Begin h b) = true
is_begin Step = false
is_begin (HandBack mask xs) = false

unfoldable pub is_hand_back : Call → Bool
is_hand_back (AddInitial m) = false
is_hand_back (Begin h b) = false
is_hand_back Step = false
is_hand_back (HandBack mask xs) = true

unfoldable pub horizon : Call → ℕ
horizon (AddInitial m) = 0
horizon (Begin h b) = h
horizon Step = 0
horizon (HandBack mask xs) = 0

unfoldable pub emissions : Call → List Emission
emissions (AddInitial m) = []
emissions (Begin h b) = []
emissions Step = []
emissions (HandBack mask xs) = xs

-- What an answer is.
unfoldable pub is_committed : Answer → Bool
is_committed Accepted = false
is_committed (Batch es g) = false
is_committed (Advanced g) = false
is_committed (Finished g) = false
is_committed (Committed g) = true
is_committed (Read r) = false
is_committed (Planned k) = false
is_committed (Refused r) = false

unfoldable pub refused : Answer → Bool
refused Accepted = false
refused (Batch es g) = false
refused (Advanced g) = false
refused (Finished g) = false
refused (Committed g) = false
refused (Read r) = false
refused (Planned k) = false
refused (Refused r) = true

unfoldable pub is_advanced : Answer → Bool
is_advanced Accepted = false
is_advanced (Batch es g) = false
is_advanced (Advanced g) = true
is_advanced (Finished g) = false
is_advanced (Committed g) = false
is_advanced (Read r) = false
is_advanced (Planned k) = false
is_advanced (Refused r) = false

unfoldable pub is_batch : Answer → Bool
is_batch Accepted = false
is_batch (Batch es g) = true
is_batch (Advanced g) = false
is_batch (Finished g) = false
is_batch (Committed g) = false
is_batch (Read r) = false
is_batch (Planned k) = false
is_batch (Refused r) = false

-- The events of a batch answered.
unfoldable pub events : Answer → List Event
events Accepted = []
events (Batch es g) = es
events (Advanced g) = []
events (Finished g) = []
events (Committed g) = []
events (Read r) = []
events (Planned k) = []
events (Refused r) = []

-- "R and accepted initial events count the begins and add initials not refused"
abbrev pub begins : Entry → Bool
begins e = is_begin e.call && not (refused e.answer)

abbrev pub adds : Entry → Bool
adds e = is_initial e.call && not (refused e.answer)

unfoldable pub R : List Entry → ℕ
R es = count begins es

unfoldable pub initials : List Entry → ℕ
initials es = count adds es

-- "H is one above the horizon of the last such begin"; 0 where there is none.
unfoldable pub H : List Entry → ℕ
H [] = 0
H (e ∷ es) = if begins e then suc (horizon e.call) otherwise H es

-- "In hand are the events of the last batch as long as every hand back since got 26, else 0."
unfoldable pub in_hand : List Entry → List Event
in_hand [] = []
in_hand (e ∷ es) = if is_batch e.answer then events e.answer otherwise if is_hand_back e.call && not (eqb (number e.answer) 26) then [] otherwise in_hand es

-- A "hand back [that] answered Committed or 24"
abbrev pub commits : Entry → Bool
commits e = is_hand_back e.call && (is_committed e.answer || eqb (number e.answer) 24)

-- "Handled are the events of the batches whose hand back answered Committed or 24"
unfoldable pub handled : List Entry → ℕ
handled [] = 0
handled (e ∷ es) = (if commits e then length (in_hand es) otherwise 0) + handled es

-- "emitted the emissions in those replies"; those among them that are remote.
unfoldable pub emitted : List Entry → ℕ
emitted [] = 0
emitted (e ∷ es) = (if commits e then length (emissions e.call) otherwise 0) + emitted es

unfoldable pub remote : List Entry → ℕ
remote [] = 0
remote (e ∷ es) = (if commits e then count is_remote (emissions e.call) otherwise 0) + remote es

-- "rounds those hand backs plus the Advanced answers"
unfoldable pub rounds : List Entry → ℕ
rounds es = count commits es + count (λ e. is_advanced e.answer) es

-- "null messages the edge bounds raised for these Advanced answers"
unfoldable pub null_message_count : List Entry → ℕ
null_message_count [] = 0
null_message_count (e ∷ es) = (if is_advanced e.answer then e.raises otherwise 0) + null_message_count es

-- "the worker count is the largest batch so far": of those handled.
unfoldable pub worker_count_of : List Entry → ℕ
worker_count_of [] = 0
worker_count_of (e ∷ es) = if commits e then max (worker_count_of es) (length (in_hand es)) otherwise worker_count_of es

-- The events handled since the last begin that was not refused: "events handed back in this run".
unfoldable pub used : List Entry → ℕ
used [] = 0
used (e ∷ es) = if begins e then 0 otherwise (if commits e then length (in_hand es) otherwise 0) + used es

-- "A process was handed its events in the batches answered, in that order, a batch lost later among them".
unfoldable pub events_at : ℕ → List Event → List Event
events_at p [] = []
events_at p (e ∷ es) = if eqb e.destination p then e ∷ events_at p es otherwise events_at p es

unfoldable pub handed_to : ℕ → List Entry → List Event
handed_to p [] = []
handed_to p (e ∷ es) = handed_to p es ++ events_at p (events e.answer)
