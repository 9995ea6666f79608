-- What the parts of hand back around the two passes promise.
use Rattle.std.specs.Prelude.{◌≡◌, List, ℕ, ◌*◌, ◌≤◌, length, Result, Ok, Err, IfOk, MatchResult}
use Rattle.rules.specs.HandBack as Rule
use Rattle.rules.specs.Calls.{HandBack}
use Rattle.records.specs.Records.{edges_of}
use Rattle.hand_back_edges.specs.Looks.{Looks}
use Rattle.reply_words.specs.declared.Emission.{Emission}
use Rattle.hand_back_enqueue.specs.declared.Tail.{Tail}
use Rattle.hand_back_check.specs.declared.ReplyCheck.{ReplyCheck}
use Rattle.hand_back_check.specs.Checks.{CheckStarted}
use Rattle.hand_back_end.specs.EndsRound.{Poisons}
use Rattle.hand_back_commit.specs.HandsBack.{HandsBack}
use Rattle.hand_back_commit.specs.Commits.{FinalCheck, CanEnd, Ends}
use Rattle.hand_back.specs.ReplyChecks.{as_given_to, Started}
use Rattle.state.specs.declared.Header.{Header}
use Rattle.state.specs.declared.Runtime.{Runtime}
use Rattle.state.specs.declared.Counters.{Counters}
use Rattle.state.specs.declared.Refusal.{Refusal}
use Rattle.state.specs.declared.CoreResult.{CoreResult}
use Rattle.state.specs.ValidArrays.{ValidArrays}
use Rattle.runtime.specs.declared.CallResult.{CallResult}
use Rattle.runtime.specs.Executes.{Executes}
use Rattle.host_hand_back.specs.declared.Opened.{Opened}
use Rattle.host_hand_back.specs.Passes.{reply_of, places_in, processes_in, batch_in, look_of, Scanned, Queued}

-- A runtime by its parts.
abbrev pub runtime_of : Header → List ℕ → List ℕ → List ℕ → List ℕ → Runtime
runtime_of h E Q Z B = record { edges = E; pending = Q; processes = Z; batch = B; head = h }

-- The check of a reply with this mask starts, and the words D, for its first pass, have the lookaheads, the table of the processes and the batch.
pub record Tables (h : Header) (edges processes batch : List ℕ) (mask : ℕ) (a : ReplyCheck) (D : List ℕ) : Type 0 where
  pub started : Started h batch mask a (places_in D)
  pub looks : Looks (edges_of h.edges edges) (places_in D) (look_of D)
  pub processes_are : processes_in D ≡ processes
  pub batch_is : batch_in D ≡ batch

-- Or 12, 25 or 26 of the mask refuses, whatever is emitted.
abbrev pub Tabled : Header → List ℕ → List ℕ → List ℕ → ℕ → Result ReplyCheck Refusal → List ℕ → Type 0
Tabled h E Z B mask r D = MatchResult r (λ a. Tables h E Z B mask a D) (λ x. (c : Counters) (xs : List Rule.Emission) (X Q Y : List ℕ) → ValidArrays h X Q Y B → HandsBack h c X Q Y B mask xs (as_given_to h c x) Q Y B)

-- The first pass of a reply with this mask to the runtime s may start.
pub record Starts (s : Runtime) (mask : ℕ) (a : ReplyCheck) (D : List ℕ) : Type 0 where
  pub lent : ValidArrays s.head s.edges s.pending s.processes s.batch
  pub tables : Tables s.head s.edges s.processes s.batch mask a D
  pub begun : CheckStarted s.head (places_in D) (processes_in D) (batch_in D) a

-- Or hand back is refused whatever is emitted, with state and counters as given.
abbrev pub OpensFrom : Runtime → ℕ → Result ReplyCheck Refusal → List ℕ → Type 0
OpensFrom s mask r D = MatchResult r (λ a. Starts s mask a D) (λ x. (xs : List Rule.Emission) (c : Counters) → Executes (HandBack mask xs) s c (Err x) s c)

abbrev pub Opens : Runtime → ℕ → Opened → Type 0
Opens s mask o = OpensFrom s mask o.check o.words

-- What 27 to 33, 19 and 18 say of k emissions, and where the first of them would go.
abbrev pub tail_of : Header → Tail
tail_of h = record { count = h.pending; next = h.next }

abbrev pub AdmissionOf : Result ReplyCheck Refusal → Header → ℕ → Result Tail Refusal → Type 0
AdmissionOf r h k p = MatchResult r
    (λ a. MatchResult p (λ t. (t ≡ tail_of h) × FinalCheck a h.next h.pending k (Ok tt)) (λ x. FinalCheck a h.next h.pending k (Err x)))
    (λ x. p ≡ Err x)

-- The refusal, with state and counters as given.
abbrev pub given_back : Runtime → Counters → Refusal → CallResult
given_back s c x = record { answer = Err x; state = s; counters = c }

-- What closing asks, with the emissions queued: that the round can end, or that it can be lost where it is not admitted.
abbrev pub Closable : Runtime → Result ReplyCheck Refusal → Result Tail Refusal → ℕ → Type 0
Closable s r q k = IfOk r (λ a. MatchResult q (λ t. CanEnd s.head s.pending s.processes s.batch k) (λ x. 8 * s.head.batch ≤ length s.batch))

-- What a call leaves, as a core would.
abbrev pub after_of : CallResult → CoreResult
after_of r = record { answer = r.answer; head = r.state.head; counters = r.counters }

-- The round is ended, with its emissions in the pending words of s.
pub record CommitsTo (s : Runtime) (c : Counters) (a : ReplyCheck) (k : ℕ) (r : CallResult) : Type 0 where
  pub left : r.state ≡ record { edges = s.edges; pending = s.pending; processes = r.state.processes; batch = r.state.batch; head = r.state.head }
  pub ends : Ends s.head c s.pending s.processes s.batch a.remote k (after_of r) r.state.processes r.state.batch

-- The round is lost with the refusal x.
pub record PoisonsTo (s : Runtime) (c : Counters) (x : Refusal) (r : CallResult) : Type 0 where
  pub left : r.state ≡ record { edges = s.edges; pending = s.pending; processes = s.processes; batch = r.state.batch; head = r.state.head }
  pub poisons : Poisons (Err x) s.head c (after_of r)

-- The runtime s with the pending words Q.
abbrev pub with_pending : Runtime → List ℕ → Runtime
with_pending s Q = runtime_of s.head s.edges Q s.processes s.batch

-- If the k emissions ys were passed twice, which made the pending words of s out of Q, the call is hand back of them to the runtime with the pending words Q.
unfoldable pub Closes : Runtime → Counters → Result ReplyCheck Refusal → Result Tail Refusal → ℕ → CallResult → Type 0
Closes s c a q k r = (Q : List ℕ) (mask : ℕ) (o : Opened) (ys : List Emission) (p : Result Tail Refusal) → Opens (with_pending s Q) mask o → Scanned o.words s.head o.check ys a → AdmissionOf a s.head k p → Queued Q p ys s.pending q
    → length ys ≡ k → Executes (HandBack mask (reply_of ys)) (with_pending s Q) c r.answer r.state r.counters
