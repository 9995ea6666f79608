-- Document 01, "Rehearsals on paper": the cases marked *, "one theorem for the lot".
-- "L = 3, edges 0→1 and 1→0, horizon 9, budget 1,000,000, unless said; C6 and C7 go on from C3's batch."
use Rattle.std.specs.Prelude.{◌≡◌, List, [], ◌∷◌, ◌++◌, map, ℕ, ◌^◌, ◌-◌}
use Rattle.rules.specs.Base.{Maybe, none, some}
use Rattle.rules.specs.State.{State, Counters, Message, Event, zeros}
use Rattle.rules.specs.Answers
use Rattle.rules.specs.Answers.{Answer, Accepted, Batch, Advanced, Finished, Committed, Refused, number, values}
use Rattle.rules.specs.Rows.{Out}
use Rattle.rules.specs.Build.{Setup, build}
use Rattle.rules.specs.HandBack.{Emission}
use Rattle.rules.specs.Calls.{Call, AddInitial, Begin, Step, HandBack, execute}

-- "L = 3, edges 0→1 and 1→0"
unfoldable pub pair : Setup
pair = record { n = 2; lookahead = 3; ids = 0 ∷ 1 ∷ []; sources = 0 ∷ 1 ∷ []; counts = 1 ∷ 1 ∷ []; destinations = 1 ∷ 0 ∷ []; lookaheads = 3 ∷ 3 ∷ [] }

-- "Only edge 0→1": row 1 is empty.
unfoldable pub one_way : Setup
one_way = record { n = 2; lookahead = 3; ids = 0 ∷ 1 ∷ []; sources = 0 ∷ 1 ∷ []; counts = 1 ∷ 0 ∷ []; destinations = 1 ∷ []; lookaheads = 3 ∷ [] }

-- What build made, if it made something, is carried on with.
unfoldable pub carry_on : Maybe State → Counters → List Call → List Out
carry_on none c ks = []
carry_on (some s) c ks = execute s c ks

-- What the calls give, from what build makes; nothing where it refuses.
unfoldable pub outs : Setup → List Call → List Out
outs a ks = let b = build a zeros in carry_on b.made b.counters ks

-- After every call: its answer, document 01's number of it and the values with it, the rounds and null messages counted, and GVT.
unfoldable pub answers : Setup → List Call → List Answer
answers a ks = map (λ (o : Out). o.answer) (outs a ks)

unfoldable pub numbers : Setup → List Call → List ℕ
numbers a ks = map number (answers a ks)

unfoldable pub returned : Setup → List Call → List (List ℕ)
returned a ks = map values (answers a ks)

unfoldable pub rounds_counted : Setup → List Call → List ℕ
rounds_counted a ks = map (λ (o : Out). o.counters.rounds) (outs a ks)

unfoldable pub null_messages_counted : Setup → List Call → List ℕ
null_messages_counted a ks = map (λ (o : Out). o.counters.null_messages) (outs a ks)

unfoldable pub gvts : Setup → List Call → List ℕ
gvts a ks = map (λ (o : Out). o.after.gvt) (outs a ks)

-- From a to b at tick t, with no payload: as a message, and accepted as the event with the sequence number k.
abbrev pub message : ℕ → ℕ → ℕ → Message
message a b t = record { source = a; destination = b; tick = t; payload = [] }

abbrev pub event : ℕ → ℕ → ℕ → ℕ → Event
event a b t k = record { source = a; destination = b; tick = t; sequence = k; payload = [] }

-- The process a emits to b at tick t.
abbrev pub emits : ℕ → ℕ → ℕ → Emission
emits a b t = record { emitter = a; message = message a b t }

-- "Initial 0→1 at [t], horizon 9", with the budget b.
abbrev pub initial_at : ℕ → ℕ → List Call
initial_at t b = AddInitial (message 0 1 t) ∷ Begin 9 b ∷ []

abbrev pub budget : ℕ
budget = 1000000

-- C1's calls.
abbrev pub no_events : List Call
no_events = Begin 9 budget ∷ Step ∷ Step ∷ Step ∷ Step ∷ Step ∷ []

-- C2's and C3's, and those that go on from C3's batch: process 1 has its event at 2 in hand and emits x.
abbrev pub at_three : List Call
at_three = initial_at 3 budget ++ (Step ∷ Step ∷ [])

abbrev pub at_two : List Call
at_two = initial_at 2 budget ++ (Step ∷ [])

abbrev pub handing_back : Emission → List Call
handing_back x = at_two ++ (HandBack 0 (x ∷ []) ∷ [])

-- C4's and C5's.
abbrev pub at_two_no_budget : List Call
at_two_no_budget = initial_at 2 0 ++ (Step ∷ [])

abbrev pub at_three_no_budget : List Call
at_three_no_budget = initial_at 3 0 ++ (Step ∷ Step ∷ [])

-- C8's: the largest tick for a horizon, an initial event, then the horizon one below it.
abbrev pub to_the_top : List Call
to_the_top = Begin (2 ^ 128 - 1) budget ∷ AddInitial (message 0 1 2) ∷ Begin (2 ^ 128 - 2) budget ∷ []

-- C9's: process 0 has its event at 2^128 - 2 in hand and emits to 1.
abbrev pub at_the_top : List Call
at_the_top = AddInitial (message 0 0 (2 ^ 128 - 2)) ∷ Begin (2 ^ 128 - 2) budget ∷ Step ∷ HandBack 0 (emits 0 1 (2 ^ 128 - 1) ∷ []) ∷ []

-- C10's: both events are handed out and back.
abbrev pub two_sources : List Call
two_sources = AddInitial (message 1 1 2) ∷ AddInitial (message 0 1 2) ∷ Begin 9 budget ∷ Step ∷ HandBack 0 [] ∷ Step ∷ HandBack 0 [] ∷ []

pub record Rehearsed : Type 0 where
  -- "No events, horizon 9: four Advanced, then Finished; rounds 4, null messages 6, GVT 0, 2, 5, 8, 9."
  pub c1 : answers pair no_events ≡ (Accepted ∷ Advanced 2 ∷ Advanced 5 ∷ Advanced 8 ∷ Advanced 9 ∷ Finished 9 ∷ [])
  pub c1_rounds : rounds_counted pair no_events ≡ (0 ∷ 1 ∷ 2 ∷ 3 ∷ 4 ∷ 4 ∷ [])
  pub c1_null_messages : null_messages_counted pair no_events ≡ (0 ∷ 2 ∷ 4 ∷ 6 ∷ 6 ∷ 6 ∷ [])
  pub c1_gvt : gvts pair no_events ≡ (0 ∷ 2 ∷ 5 ∷ 8 ∷ 9 ∷ 9 ∷ [])
  -- "Initial 0→1 at 3, horizon 9: Advanced first, then the batch."
  pub c2 : answers pair at_three ≡ (Accepted ∷ Accepted ∷ Advanced 2 ∷ Batch (event 0 1 3 0 ∷ []) 2 ∷ [])
  -- "At 2: batch first."
  pub c3 : answers pair at_two ≡ (Accepted ∷ Accepted ∷ Batch (event 0 1 2 0 ∷ []) 0 ∷ [])
  -- "C3 with budget 0: 24 at the first step, GVT 0."
  pub c4 : answers pair at_two_no_budget ≡ (Accepted ∷ Accepted ∷ Refused (Answers.EventBudgetExceeded 0) ∷ [])
  pub c4_number : numbers pair at_two_no_budget ≡ (0 ∷ 0 ∷ 24 ∷ [])
  pub c4_rounds : rounds_counted pair at_two_no_budget ≡ (0 ∷ 0 ∷ 0 ∷ [])
  pub c4_null_messages : null_messages_counted pair at_two_no_budget ≡ (0 ∷ 0 ∷ 0 ∷ [])
  pub c4_gvt : gvts pair at_two_no_budget ≡ (0 ∷ 0 ∷ 0 ∷ [])
  -- "C2 with budget 0: Advanced, GVT 2, then 24."
  pub c5 : answers pair at_three_no_budget ≡ (Accepted ∷ Accepted ∷ Advanced 2 ∷ Refused (Answers.EventBudgetExceeded 0) ∷ [])
  pub c5_number : numbers pair at_three_no_budget ≡ (0 ∷ 0 ∷ 0 ∷ 24 ∷ [])
  pub c5_rounds : rounds_counted pair at_three_no_budget ≡ (0 ∷ 0 ∷ 1 ∷ 1 ∷ [])
  pub c5_null_messages : null_messages_counted pair at_three_no_budget ≡ (0 ∷ 0 ∷ 2 ∷ 2 ∷ [])
  pub c5_gvt : gvts pair at_three_no_budget ≡ (0 ∷ 0 ∷ 2 ∷ 2 ∷ [])
  -- "Event at 2 emits to itself at 2: Committed; at 1: 32, minimum 2."
  pub c6_committed : answers pair (handing_back (emits 1 1 2)) ≡ (Accepted ∷ Accepted ∷ Batch (event 0 1 2 0 ∷ []) 0 ∷ Committed 1 ∷ [])
  pub c6_refused : answers pair (handing_back (emits 1 1 1)) ≡ (Accepted ∷ Accepted ∷ Batch (event 0 1 2 0 ∷ []) 0 ∷ Refused (Answers.OutboundLookaheadViolation 1 2 1 2) ∷ [])
  pub c6_number : numbers pair (handing_back (emits 1 1 1)) ≡ (0 ∷ 0 ∷ 0 ∷ 32 ∷ [])
  pub c6_values : returned pair (handing_back (emits 1 1 1)) ≡ ([] ∷ [] ∷ (0 ∷ 1 ∷ 2 ∷ 0 ∷ 0 ∷ 0 ∷ []) ∷ (1 ∷ 2 ∷ 1 ∷ 2 ∷ []) ∷ [])
  -- "To the other at 5: Committed; at 4: 32, minimum 5."
  pub c7_committed : answers pair (handing_back (emits 1 0 5)) ≡ (Accepted ∷ Accepted ∷ Batch (event 0 1 2 0 ∷ []) 0 ∷ Committed 2 ∷ [])
  pub c7_refused : answers pair (handing_back (emits 1 0 4)) ≡ (Accepted ∷ Accepted ∷ Batch (event 0 1 2 0 ∷ []) 0 ∷ Refused (Answers.OutboundLookaheadViolation 1 2 4 5) ∷ [])
  pub c7_number : numbers pair (handing_back (emits 1 0 4)) ≡ (0 ∷ 0 ∷ 0 ∷ 32 ∷ [])
  pub c7_values : returned pair (handing_back (emits 1 0 4)) ≡ ([] ∷ [] ∷ (0 ∷ 1 ∷ 2 ∷ 0 ∷ 0 ∷ 0 ∷ []) ∷ (1 ∷ 2 ∷ 4 ∷ 5 ∷ []) ∷ [])
  -- "Horizon 2^128 - 1: 22, initial events still open; 2^128 - 2 is accepted."
  pub c8 : answers pair to_the_top ≡ (Refused (Answers.HorizonOverflow (2 ^ 128 - 1)) ∷ Accepted ∷ Accepted ∷ [])
  pub c8_number : numbers pair to_the_top ≡ (22 ∷ 0 ∷ 0 ∷ [])
  pub c8_values : returned pair to_the_top ≡ (((2 ^ 128 - 1) ∷ []) ∷ [] ∷ [] ∷ [])
  -- "Only edge 0→1, initial 0→0 at 2^128 - 2, that horizon; emission to 1: 31."
  pub c9 : answers one_way at_the_top ≡ (Accepted ∷ Accepted ∷ Batch (event 0 0 (2 ^ 128 - 2) 0 ∷ []) 0 ∷ Refused (Answers.LookaheadOverflow 0 (2 ^ 128 - 2) 3) ∷ [])
  pub c9_number : numbers one_way at_the_top ≡ (0 ∷ 0 ∷ 0 ∷ 31 ∷ [])
  pub c9_values : returned one_way at_the_top ≡ ([] ∷ [] ∷ (0 ∷ 0 ∷ (2 ^ 128 - 2) ∷ 0 ∷ 0 ∷ 0 ∷ []) ∷ (0 ∷ (2 ^ 128 - 2) ∷ 3 ∷ []) ∷ [])
  -- "Initial 1→1 at 2, then 0→1 at 2: source 0 comes out first."
  pub c10 : answers pair two_sources ≡ (Accepted ∷ Accepted ∷ Accepted ∷ Batch (event 0 1 2 1 ∷ []) 0 ∷ Committed 1 ∷ Batch (event 1 1 2 0 ∷ []) 1 ∷ Committed 2 ∷ [])
