-- Demand 3's numbers on lists of calls from "Rehearsals on paper", computed from calls and answers.
use Rattle.std.specs.Prelude.{◌≡◌, List, [], ◌∷◌, ◌++◌, ℕ, length}
use Rattle.rules.specs.Calls.{Call, Begin, Step, HandBack}
use Rattle.rules.specs.History
use Rattle.rules.specs.History.{Entry, empty_history, run_calls, R, H, initials, in_hand, emitted, remote, worker_count_of, used, handed_to}
use Rattle.rules.specs.Rehearsals.{pair, budget, event, emits, no_events, at_two, handing_back, two_sources}

unfoldable pub entries_of : List Call → List Entry
entries_of ks = (run_calls (empty_history pair) ks).entries

-- R, H, accepted initial, handled, emitted, remote, rounds, null messages, worker count, used, in hand: in this order.
unfoldable pub numbers : List Entry → List ℕ
numbers es = R es ∷ H es ∷ initials es ∷ History.handled es ∷ emitted es ∷ remote es ∷ History.rounds es ∷ History.null_message_count es ∷ worker_count_of es ∷ used es ∷ length (in_hand es) ∷ []

-- C10 with a second run behind it: its begin has used count 0.
abbrev pub two_runs : List Call
two_runs = two_sources ++ (Step ∷ Step ∷ Step ∷ Step ∷ Step ∷ Begin 12 budget ∷ [])

-- C3's batch, a malformed reply (26), then a bad emission (32): the batch is lost, and was handed out all the same.
abbrev pub kept_then_poisoned : List Call
kept_then_poisoned = at_two ++ (HandBack 1 [] ∷ HandBack 0 (emits 1 1 1 ∷ []) ∷ [])

pub record Counts : Type 0 where
  -- C1: "rounds 4, null messages 6".
  pub c1 : numbers (entries_of no_events) ≡ (1 ∷ 10 ∷ 0 ∷ 0 ∷ 0 ∷ 0 ∷ 4 ∷ 6 ∷ 0 ∷ 0 ∷ 0 ∷ [])
  -- C3: the batch is in hand.
  pub c3 : numbers (entries_of at_two) ≡ (1 ∷ 10 ∷ 1 ∷ 0 ∷ 0 ∷ 0 ∷ 0 ∷ 0 ∷ 0 ∷ 0 ∷ 1 ∷ [])
  -- C7: one event handled, one emitted, to another process.
  pub c7 : numbers (entries_of (handing_back (emits 1 0 5))) ≡ (1 ∷ 10 ∷ 1 ∷ 1 ∷ 1 ∷ 1 ∷ 1 ∷ 0 ∷ 1 ∷ 1 ∷ 0 ∷ [])
  -- C7's refusal: nothing is handled, and the batch is lost.
  pub c7_lost : numbers (entries_of (handing_back (emits 1 0 4))) ≡ (1 ∷ 10 ∷ 1 ∷ 0 ∷ 0 ∷ 0 ∷ 0 ∷ 0 ∷ 0 ∷ 0 ∷ 0 ∷ [])
  -- C10: both events were handed out, source 0's first.
  pub c10 : numbers (entries_of two_sources) ≡ (1 ∷ 10 ∷ 2 ∷ 2 ∷ 0 ∷ 0 ∷ 2 ∷ 0 ∷ 1 ∷ 2 ∷ 0 ∷ [])
  pub c10_handed : handed_to 1 (entries_of two_sources) ≡ (event 0 1 2 1 ∷ event 1 1 2 0 ∷ [])
  -- A second begin: R is 2, H one above its horizon, used 0 again.
  pub second_run : numbers (entries_of two_runs) ≡ (2 ∷ 13 ∷ 2 ∷ 2 ∷ 0 ∷ 0 ∷ 6 ∷ 6 ∷ 1 ∷ 0 ∷ 0 ∷ [])
  -- After 26 the batch is still in hand; after 32 it is not.
  pub kept : numbers (entries_of (at_two ++ (HandBack 1 [] ∷ []))) ≡ (1 ∷ 10 ∷ 1 ∷ 0 ∷ 0 ∷ 0 ∷ 0 ∷ 0 ∷ 0 ∷ 0 ∷ 1 ∷ [])
  pub lost : numbers (entries_of kept_then_poisoned) ≡ (1 ∷ 10 ∷ 1 ∷ 0 ∷ 0 ∷ 0 ∷ 0 ∷ 0 ∷ 0 ∷ 0 ∷ 0 ∷ [])
  pub lost_handed : handed_to 1 (entries_of kept_then_poisoned) ≡ (event 0 1 2 0 ∷ [])
