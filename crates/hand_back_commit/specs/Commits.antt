-- What the end of a reply asks and leaves, in the words of the rules.
use Rattle.std.specs.Prelude.{◌≡◌, false, List, ℕ, ◌+◌, ◌-◌, ◌*◌, ◌^◌, ◌≤◌, ◌<◌, ltb, length, Option, Some, None, Result, Ok, Err, MatchResult}
use Rattle.types.specs.declared.LpId.{LpId}
use Rattle.types.specs.Value.{ticks_of}
use Rattle.rules.specs.Base.{if◌then◌otherwise◌, count}
use Rattle.rules.specs.State.{saturating_add, max_count, max_pending}
use Rattle.rules.specs.Pending.{queue}
use Rattle.rules.specs.HandBack.{Emission, malformed, messages, is_remote}
use Rattle.records.specs.Records.{events_of}
use Rattle.hand_back_emission.specs.Checks.{ChecksRows}
use Rattle.hand_back_check.specs.declared.ReplyCheck.{ReplyCheck}
use Rattle.hand_back_check.specs.EmissionRows.{first_failed, rows_up_to}
use Rattle.hand_back_end.specs.EndsRound.{Poisons}
use Rattle.state.specs.declared.Header.{Header}
use Rattle.state.specs.declared.Counters.{Counters}
use Rattle.state.specs.declared.Refusal.{Refusal}
use Rattle.state.specs.declared.Refusal.TheVariants as P
use Rattle.state.specs.declared.CoreResult.{CoreResult}
use Rattle.state.specs.View.{view}
use Rattle.state.specs.ValidArrays.{ValidArrays}
use Rattle.hand_back_commit.specs.HandsBack.{HandsBack}

-- A batch is in hand, in a state that 11 and 12 let pass.
pub record InHand (h : Header) (edges pending processes batch : List ℕ) : Type 0 where
  pub lent : ValidArrays h edges pending processes batch
  pub healthy : h.poisoned ≡ false
  pub in_hand_holds : 0 < h.batch

-- The k emissions xs of a reply are checked, and a says how far: the reply is not malformed.
pub record ReplyChecked (h : Header) (edges pending processes batch : List ℕ) (a : ReplyCheck) (mask k : ℕ) (xs : List Emission) : Type 0 where
  pub number : length xs ≡ k
  pub not_malformed : malformed (events_of h.batch batch) mask xs ≡ false
  pub failed_is : a.failed ≡ first_failed mask (events_of h.batch batch)
  pub outcome_is : ChecksRows (rows_up_to (view h edges pending processes batch) (events_of h.batch batch) a.failed xs) a.outcome
  pub remote : a.remote ≡ saturating_add 0 (count is_remote xs)

-- What is left is what the rules' hand back of the checked emissions leaves.
unfoldable pub Finishes : Header → Counters → List ℕ → List ℕ → List ℕ → List ℕ → ReplyCheck → ℕ → CoreResult → List ℕ → List ℕ → List ℕ → Type 0
Finishes h c E Q Z B a k r Q' Z' B' = (mask : ℕ) (xs : List Emission) → ReplyChecked h E Q Z B a mask k xs → HandsBack h c E Q Z B mask xs r Q' Z' B'

-- 19 and 18 let k emissions pass.
pub record Fits (next pending k : ℕ) : Type 0 where
  pub in_time : next + k ≤ 18446744073709551615
  pub room : pending + k ≤ 512

-- What 27, 19 and 18 say.
unfoldable pub refusal_of : Option LpId → ℕ → ℕ → ℕ → Result (Unit {0}) Refusal
refusal_of (Some p) next pending k = Err (P.HandlerFailed p)
refusal_of None next pending k =
    if ltb max_count (next + k) then Err P.EventSequenceOverflow
    otherwise if ltb max_pending (pending + k) then Err P.QueueFull
    otherwise Ok tt

-- a's rows passed, and no process failed.
pub record Passes (a : ReplyCheck) : Type 0 where
  pub passed : a.outcome ≡ Ok tt
  pub none_failed : a.failed ≡ None

-- The round is lost with the refusal x.
abbrev pub LosesRound : ReplyCheck → ℕ → ℕ → ℕ → Refusal → Type 0
LosesRound a next pending k x = (h : Header) (c : Counters) (edges pend processes batch : List ℕ) (r : CoreResult) (batch' : List ℕ) → h.next ≡ next → h.pending ≡ pending
    → InHand h edges pend processes batch → Poisons (Err x) h c r → Finishes h c edges pend processes batch a k r pend processes batch'

-- The check v with 27, 19 and 18 behind the rows that a's is of: where it refuses, the round is lost with its refusal.
abbrev pub FinalCheck : ReplyCheck → ℕ → ℕ → ℕ → Result (Unit {0}) Refusal → Type 0
FinalCheck a next pending k v = MatchResult v (λ _. Passes a × Fits next pending k) (LosesRound a next pending k)

-- What the end of a round of k emissions asks, with these queued.
pub record CanEnd (h : Header) (pending processes batch : List ℕ) (k : ℕ) : Type 0 where
  pub few : h.n ≤ 64
  pub pending_words : 8 * (h.pending + k) ≤ length pending
  pub process_words : length processes ≡ 256
  pub batch_words : 8 * h.batch ≤ length batch
  pub horizon : ticks_of h.horizon < 2 ^ 128 - 1
  pub fits : Fits h.next h.pending k

-- It is the rules' hand back, for any edges, any pending words before and any check that so many remote emissions were counted in, if the emissions were queued.
unfoldable pub Ends : Header → Counters → List ℕ → List ℕ → List ℕ → ℕ → ℕ → CoreResult → List ℕ → List ℕ → Type 0
Ends h c Q' Z B remote k r Z' B' = (E Q : List ℕ) (a : ReplyCheck) → InHand h E Q Z B → Passes a → a.remote ≡ remote → (mask : ℕ) (xs : List Emission) → ReplyChecked h E Q Z B a mask k xs
    → events_of (h.pending + k) Q' ≡ queue (events_of h.pending Q) h.next (messages xs) → HandsBack h c E Q Z B mask xs r Q' Z' B'
