-- The two passes over a reply of emission records: the words that they read and write, and how far each has come.
use Rattle.std.specs.Prelude.{◌≡◌, List, ◌++◌, map, ℕ, length, take, drop, Result, Err, IfOk, IsOkAnd, MatchResult}
use Rattle.types.specs.Value.{lp_id_of}
use Rattle.rules.specs.HandBack as Rule
use Rattle.reply_words.specs.declared.Emission.{Emission}
use Rattle.reply_words.specs.Emissions.{emission_of}
use Rattle.hand_back_edges.specs.Lookaheads.{lookahead_in}
use Rattle.hand_back_enqueue.specs.declared.Tail.{Tail}
use Rattle.hand_back_enqueue.specs.Enqueued.{Enqueueable, Enqueued, Enqueues}
use Rattle.hand_back_check.specs.declared.ReplyCheck.{ReplyCheck}
use Rattle.hand_back_check.specs.Checks as Check
use Rattle.hand_back_check.specs.Checks.{ChecksFrom, CheckStarted, CheckedFrom}
use Rattle.state.specs.declared.Header.{Header}
use Rattle.state.specs.declared.Refusal.{Refusal}

-- The emissions of a reply of records, as the rules have them.
abbrev pub reply_of : List Emission → List Rule.Emission
reply_of ys = map emission_of ys

pub record Sizes (lookaheads places processes batch : List ℕ) : Type 0 where
  pub look_words : length lookaheads ≡ 8192
  pub place_words : length places ≡ 64
  pub process_words : length processes ≡ 256
  pub batch_words : length batch ≡ 512

-- The words that the first pass reads, and their parts.
abbrev pub tables_of : List ℕ → List ℕ → List ℕ → List ℕ → List ℕ
tables_of lookaheads places processes batch = ((lookaheads ++ places) ++ processes) ++ batch

abbrev pub lookaheads_in : List ℕ → List ℕ
lookaheads_in D = take 8192 (drop 0 D)

abbrev pub places_in : List ℕ → List ℕ
places_in D = take 64 (drop 8192 D)

abbrev pub processes_in : List ℕ → List ℕ
processes_in D = take 256 (drop 8256 D)

abbrev pub batch_in : List ℕ → List ℕ
batch_in D = take 512 (drop 8512 D)

-- The lookahead from one process to another by the words D.
abbrev pub look_of : List ℕ → ℕ → ℕ → ℕ
look_of D = lookahead_in (lookaheads_in D)

-- What checking an emission asks of the words D, and what it leaves.
abbrev pub Checkable : List ℕ → Header → Type 0
Checkable D h = Check.Checkable h (places_in D) (processes_in D) (batch_in D)

abbrev pub ChecksNext : List ℕ → Header → Result ReplyCheck Refusal → Emission → Result ReplyCheck Refusal → Type 0
ChecksNext D h a e r = ChecksFrom h (look_of D (lp_id_of e.emitter) (lp_id_of e.destination)) (places_in D) (processes_in D) (batch_in D) a e r

-- The same of all emissions. A reply that is refused before the first of them stays so.
abbrev pub Begun : List ℕ → Header → Result ReplyCheck Refusal → Type 0
Begun D h s = IfOk s (λ a. CheckStarted h (places_in D) (processes_in D) (batch_in D) a)

abbrev pub Scanned : List ℕ → Header → Result ReplyCheck Refusal → List Emission → Result ReplyCheck Refusal → Type 0
Scanned D h s ys r = CheckedFrom h (look_of D) (places_in D) (processes_in D) (batch_in D) s (reply_of ys) r

-- Emissions are queued as P says, from one tail to the next, where the round is admitted; where it is not, the pending words u are as they were.
abbrev pub IfAdmitted : (Tail → Tail → Type 0) → List ℕ → Result Tail Refusal → List ℕ → Result Tail Refusal → Type 0
IfAdmitted P w p u r = MatchResult p (λ t. IsOkAnd r (P t)) (λ x. (r ≡ Err x) × (u ≡ w))

-- What queueing an emission leaves.
abbrev pub EnqueuesNext : List ℕ → Result Tail Refusal → Emission → List ℕ → Result Tail Refusal → Type 0
EnqueuesNext w p e u r = IfAdmitted (λ t v. Enqueues t (emission_of e) w v u) w p u r

-- What queueing all emissions asks of the pending words, and what it leaves.
abbrev pub Admitted : List ℕ → Result Tail Refusal → List Emission → Type 0
Admitted w p ys = IfOk p (λ t. Enqueueable t (length ys) w)

abbrev pub Queued : List ℕ → Result Tail Refusal → List Emission → List ℕ → Result Tail Refusal → Type 0
Queued w p ys u r = IfAdmitted (λ t v. Enqueued t (reply_of ys) w v u) w p u r
