-- What the end of hand back asks and leaves, in the words of the rules.
use Rattle.std.specs.Prelude.{◌≡◌, false, List, ℕ, ◌*◌, ◌^◌, ◌-◌, ◌≤◌, ◌<◌, length, Result}
use Rattle.types.specs.Value.{ticks_of}
use Rattle.records.specs.Records.{events_of}
use Rattle.rules.specs.Base.{if◌then◌otherwise◌, count}
use Rattle.rules.specs.State as R
use Rattle.rules.specs.State.{Event, State, closed}
use Rattle.rules.specs.Answers as A
use Rattle.rules.specs.Rows.{Out, out}
use Rattle.rules.specs.Refresh.{refreshed}
use Rattle.rules.specs.Step.{spent}
use Rattle.rules.specs.HandBack.{Emission, is_remote, count_round}
use Rattle.rules.proofs.Shape.{Queued}
use Rattle.state.specs.declared.Header.{Header}
use Rattle.state.specs.declared.Counters.{Counters}
use Rattle.state.specs.declared.Answer.{Answer}
use Rattle.state.specs.declared.Refusal.{Refusal}
use Rattle.state.specs.declared.CoreResult.{CoreResult}
use Rattle.state.specs.View.{view, counters_of, answer_of}
use Rattle.state.specs.Headers.{poisoned_header}
use Rattle.state.specs.AsGiven.{leaves_state_as_given}
use Rattle.step_advance.specs.Advances.{FirstTicksOf}

-- The counters c after a round that handled the events es and emitted the xs.
unfoldable pub CountsRound : Counters → ℕ → ℕ → ℕ → Counters → Type 0
CountsRound c handled emitted remote r = (es : List Event) (xs : List Emission) → length es ≡ handled → length xs ≡ emitted → count is_remote xs ≡ remote → counters_of r ≡ count_round (counters_of c) es xs

-- The answer, with nothing in hand and poisoned set. Which words the batch's are then does not matter: the view has none of them.
abbrev pub Poisons : Result Answer Refusal → Header → Counters → CoreResult → Type 0
Poisons a h c r = r ≡ record { answer = a; head = poisoned_header h; counters = c }

-- The end of the rules' `commit`, of a state t in which the round is done.
unfoldable pub round_ended : State → R.Counters → ℕ → ℕ → Out
round_ended t c horizon budget =
    let u = refreshed t horizon t.edges t.inbound t.horizons in
    if spent t horizon budget then out (A.Refused (A.EventBudgetExceeded budget)) (closed t) c
    otherwise out (A.Committed u.gvt) u c

pub record CanEndRound (h : Header) (pending processes : List ℕ) : Type 0 where
  pub few : h.n ≤ 64
  pub pending_words : 8 * h.pending ≤ length pending
  pub process_words : length processes ≡ 256
  pub horizon : ticks_of h.horizon < 2 ^ 128 - 1

-- Whatever the edges and the batch's words are, where the pending events are as 11 lets them pass; and the answer is none that leaves the state as given.
pub record EndsRound (h : Header) (c : Counters) (pending processes : List ℕ) (r : CoreResult) (processes' : List ℕ) : Type 0 where
  pub gives : (E B : List ℕ) → Queued h.n h.next (events_of h.pending pending)
      → out (answer_of (events_of r.head.batch B) r.answer) (view r.head E pending processes' B) (counters_of r.counters) ≡ round_ended (view h E pending processes B) (counters_of c) (ticks_of h.horizon) h.budget
  pub moves : (es : List Event) → leaves_state_as_given (answer_of es r.answer) ≡ false

-- The header and the local horizons are the rules' refreshed ones, and the record stays, of whatever state with this header the first ticks are.
pub record RefreshesHeader (h : Header) (processes first : List ℕ) (r : Header) (processes' : List ℕ) : Type 0 where
  pub state : (E P B : List ℕ) → Queued h.n h.next (events_of h.pending P) → FirstTicksOf h P first
      → let s = view h E P processes B in view r E P processes' B ≡ refreshed s (ticks_of h.horizon) s.edges s.inbound s.horizons
