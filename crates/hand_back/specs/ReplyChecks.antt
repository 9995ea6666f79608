-- What the parts of hand back ask and answer, in whatever form a reply is lent.
use Rattle.std.specs.Prelude.{◌≡◌, true, false, List, ℕ, ◌*◌, ◌/◌, ◌^◌, ◌-◌, ◌≤◌, ◌<◌, leb, length, Result, Err, MatchResult}
use Rattle.types.specs.Value.{ticks_of}
use Rattle.records.specs.Records.{edges_of, events_of, Owners}
use Rattle.rules.specs.Base.{any, rising}
use Rattle.rules.specs.Pending.{before}
use Rattle.rules.specs.HandBack.{Emission}
use Rattle.rules.specs.Foreign.{without_lookahead, unknown_id_edge}
use Rattle.reply_words.specs.Emissions.{emissions_of}
use Rattle.reply_words.specs.Replies.{Places, failed_not_in_batch}
use Rattle.hand_back_check.specs.declared.ReplyCheck.{ReplyCheck}
use Rattle.hand_back_check.specs.EmissionRows.{first_failed}
use Rattle.hand_back_check.specs.Checks.{start_of}
use Rattle.state.specs.declared.Header.{Header}
use Rattle.state.specs.declared.Counters.{Counters}
use Rattle.state.specs.declared.Refusal.{Refusal}
use Rattle.state.specs.declared.CoreResult.{CoreResult}
use Rattle.state.specs.ValidArrays.{ValidArrays}
use Rattle.state.specs.RefusalOr.{RefusalOr}
use Rattle.hand_back_commit.specs.HandsBack.{HandsBack}
use Rattle.hand_back_commit.specs.Commits.{InHand, ReplyChecked}

-- The emissions of a reply in words; words that make no whole one are passed over.
abbrev pub replied_of : List ℕ → List Emission
replied_of w = emissions_of (length w / 8) w

-- The call is refused, all as given.
abbrev pub as_given_to : Header → Counters → Refusal → CoreResult
as_given_to h c x = record { answer = Err x; head = h; counters = c }

-- 12 and 25 let the call pass.
pub record Passed (h : Header) : Type 0 where
  pub healthy : h.poisoned ≡ false
  pub in_hand_holds : h.batch ≡ 0 → ⊥

-- What 12 and 25 answer, whatever the reply, the arrays and the counters are.
abbrev pub EarlyRows : Header → Result (Unit {0}) Refusal → Type 0
EarlyRows h r = RefusalOr r (Passed h) (λ x. (c : Counters) (mask : ℕ) (xs : List Emission) (E P Z B : List ℕ) → ValidArrays h E P Z B → HandsBack h c E P Z B mask xs (as_given_to h c x) P Z B)

-- What the tables of edges and places are made of, in a state that 11 let pass.
pub record Ready (h : Header) (edges batch : List ℕ) : Type 0 where
  pub few : h.n ≤ 64
  pub few_edges : h.edges ≤ 512
  pub few_batch : h.batch ≤ 64
  pub edge_words : 6 * h.edges ≤ length edges
  pub wired : any (unknown_id_edge 64) (edges_of h.edges edges) ≡ false
  pub ahead : any without_lookahead (edges_of h.edges edges) ≡ false
  pub batch_words : 8 * h.batch ≤ length batch
  pub owners : Owners h.batch batch

-- 12, 25 and 26 of the mask let the reply pass: its check starts, with the table T of places.
pub record Started (h : Header) (batch : List ℕ) (mask : ℕ) (a : ReplyCheck) (T : List ℕ) : Type 0 where
  pub passed : Passed h
  pub known : failed_not_in_batch (events_of h.batch batch) mask ≡ false
  pub start : a ≡ start_of mask (first_failed mask (events_of h.batch batch))
  pub places : Places (events_of h.batch batch) T
  pub place_words : length T ≡ 64

-- Or one of them refuses, whatever is emitted.
abbrev pub Begins : Header → List ℕ → ℕ → Result ReplyCheck Refusal → List ℕ → Type 0
Begins h batch mask r T = MatchResult r (λ a. Started h batch mask a T)
    (λ x. (c : Counters) (xs : List Emission) (E P Z : List ℕ) → ValidArrays h E P Z batch → HandsBack h c E P Z batch mask xs (as_given_to h c x) P Z batch)

-- What the check of emissions asks, with a table that has rows for n events: it has started.
pub record CanReview (h : Header) (edges processes batch : List ℕ) (a : ReplyCheck) (T : List ℕ) (n : ℕ) : Type 0 where
  pub ready : Ready h edges batch
  pub process_words : length processes ≡ 256
  pub batch_words : length batch ≡ 512
  pub started : Started h batch a.mask a T
  pub rows : h.batch ≤ n

-- The emissions xs are checked, and a says how far: the reply is not malformed.
pub record LetsPass (h : Header) (edges processes batch : List ℕ) (mask : ℕ) (xs : List Emission) (a : ReplyCheck) : Type 0 where
  pub passed : Passed h
  pub checked : (P : List ℕ) → ReplyChecked h edges P processes batch a mask (length xs) xs

-- Or the call is refused with all as given.
abbrev pub ChecksReply : Header → List ℕ → List ℕ → List ℕ → ℕ → List Emission → Result ReplyCheck Refusal → Type 0
ChecksReply h edges processes batch mask xs r = MatchResult r (LetsPass h edges processes batch mask xs)
    (λ x. (c : Counters) (P : List ℕ) → ValidArrays h edges P processes batch → HandsBack h c edges P processes batch mask xs (as_given_to h c x) P processes batch)

-- What the end of a reply asks of the header and of what it is lent: a batch in hand, in a state that 11 let pass.
pub record CanCommit (h : Header) (pending processes batch : List ℕ) : Type 0 where
  pub few : h.n ≤ 64
  pub pending_words : length pending ≡ 4096
  pub process_words : length processes ≡ 256
  pub batch_words : 8 * h.batch ≤ length batch
  pub ordered : rising before (events_of h.pending pending) ≡ true
  pub newest : any (λ e. leb h.next e.sequence) (events_of h.pending pending) ≡ false
  pub horizon : ticks_of h.horizon < 2 ^ 128 - 1

-- What is left is what the rules' hand back of these emissions leaves, whatever the edges are.
unfoldable pub Commits : Header → Counters → List ℕ → List ℕ → List ℕ → ReplyCheck → List Emission → CoreResult → List ℕ → List ℕ → List ℕ → Type 0
Commits h c Q Z B a xs r Q' Z' B' = (E : List ℕ) (mask : ℕ) → InHand h E Q Z B → ReplyChecked h E Q Z B a mask (length xs) xs → HandsBack h c E Q Z B mask xs r Q' Z' B'
