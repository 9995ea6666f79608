-- What each return of the parts behind the first pass gives.
use Rattle.std.specs.Prelude.{Result, Ok, Err, IsErrAnd}
use Rattle.std.proofs.lemmas.Result.{err_from_is_err_and}
use mathlib.Core.Path.{◌≡◌, refl, sym, ap, subst, ◌∙◌}
use mathlib.Core.List.{List}
use Prim.Native.Nat.{ℕ, ◌+◌, ◌*◌, ◌≤◌}
use native.Mathlib.Omega.{arith}
use lib.ListN.{length, length-map}
use Rattle.rules.specs.Calls.{HandBack}
use Rattle.rules.specs.Pending.{queue}
use Rattle.rules.specs.HandBack.{messages}
use Rattle.records.specs.Records.{events_of}
use Rattle.reply_words.specs.declared.Emission.{Emission}
use Rattle.reply_words.specs.Emissions.{emission_of}
use Rattle.hand_back_emission.proofs.InHand.{findable}
use Rattle.hand_back_enqueue.specs.declared.Tail.{Tail}
use Rattle.hand_back_enqueue.specs.Enqueued.{Enqueueable, Enqueued}
use Rattle.hand_back_check.specs.declared.ReplyCheck.{ReplyCheck}
use Rattle.hand_back_check.specs.Checks.{Checked}
use Rattle.hand_back_commit.specs.Commits.{InHand, ReplyChecked, Finishes, Fits, FinalCheck, Ends}
use Rattle.hand_back_commit.proofs.Ending.{endable}
use Rattle.hand_back.specs.ReplyChecks.{as_given_to, ChecksReply, LetsPass}
use Rattle.hand_back.proofs.ReplyChecking as Review
use Rattle.state.specs.declared.Header.{Header}
use Rattle.state.specs.declared.Runtime.{Runtime}
use Rattle.state.specs.declared.Counters.{Counters}
use Rattle.state.specs.declared.Refusal.{Refusal}
use Rattle.state.specs.ValidArrays.{ValidArrays}
use Rattle.state.proofs.Facts.{in_order, newest}
use Rattle.runtime.specs.declared.CallResult.{CallResult}
use Rattle.runtime.specs.Executes.{Executes}
use Rattle.runtime.proofs.Executing.{carries_back}
use Rattle.host_hand_back.specs.declared.Opened.{Opened}
use Rattle.host_hand_back.specs.Passes.{reply_of, places_in, look_of, Scanned, Admitted, Queued}
use Rattle.host_hand_back.specs.Parts.{Starts, OpensFrom, Opens, tail_of, AdmissionOf, given_back, after_of, CommitsTo, PoisonsTo, Closable, with_pending, Closes}

err_in : {A : Type 0} → Refusal → Result A Refusal → Refusal
err_in d (Ok a) = d
err_in d (Err x) = x

same_err : {A : Type 0} (x y : Refusal) → ◌≡◌ {A = Result A Refusal} (Err x) (Err y) → x ≡ y
unfolding err_in
same_err x y e = ap (err_in x) e

-- What the first pass, from the start a, says of a reply of the emissions ys.
module _ (s : Runtime) (mask : ℕ) (D : List ℕ) (a : ReplyCheck) (w : Starts s mask a D) (ys : List Emission) where
  checks_reply : (r : Result ReplyCheck Refusal) → Scanned D s.head (Ok a) ys r → ChecksReply s.head s.edges s.processes s.batch mask (reply_of ys) r
  checks_reply r t =
      let d = w.tables in
      let c : Checked s.head (look_of D) (places_in D) s.processes s.batch a (reply_of ys) r = rw (d.processes_are, d.batch_is) at t in
      Review.checks_reply s.head s.edges s.processes s.batch mask a (places_in D) (Review.ready s.head s.edges s.pending s.processes s.batch w.lent) w.lent.process_words w.lent.batch_words d.started (look_of D) d.looks (reply_of ys) r c

-- It stopped, or did not begin.
given_back_from : (s : Runtime) (mask : ℕ) (D : List ℕ) (r : Result ReplyCheck Refusal) → OpensFrom s mask r D → (ys : List Emission) (x : Refusal) → Scanned D s.head r ys (Err x) → (c : Counters)
    → Executes (HandBack mask (reply_of ys)) s c (Err x) s c
given_back_from s mask D (Ok a) w ys x t c = carries_back s c (as_given_to s.head c x) s.pending s.processes s.batch mask (reply_of ys) (checks_reply s mask D a w ys (Err x) t c s.pending w.lent)
given_back_from s mask D (Err y) w ys x t c = rw (same_err x y t) (w (reply_of ys) c)

-- It went on to the last emission, and a says how far it came.
pub record Passed (s : Runtime) (mask : ℕ) (ys : List Emission) (a : ReplyCheck) : Type 0 where
  pub lent : ValidArrays s.head s.edges s.pending s.processes s.batch
  pub passes : LetsPass s.head s.edges s.processes s.batch mask (reply_of ys) a

passed_from : (s : Runtime) (mask : ℕ) (D : List ℕ) (r : Result ReplyCheck Refusal) → OpensFrom s mask r D → (ys : List Emission) (a : ReplyCheck) → Scanned D s.head r ys (Ok a) → Passed s mask ys a
passed_from s mask D (Ok b) w ys a t = record { lent = w.lent; passes = checks_reply s mask D b w ys (Ok a) t }
passed_from s mask D (Err y) w ys a t = absurd cc

module _ (s : Runtime) (mask : ℕ) (ys : List Emission) (a : ReplyCheck) (v : Passed s mask ys a) where
  pub in_hand_holds : InHand s.head s.edges s.pending s.processes s.batch
  in_hand_holds = let p = v.passes.passed in record { lent = v.lent; healthy = p.healthy; in_hand_holds = omega (arith, p.in_hand_holds) }

  module _ (k : ℕ) (e : length ys ≡ k) where
    reply_checked : ReplyChecked s.head s.edges s.pending s.processes s.batch a mask k (reply_of ys)
    reply_checked = subst (λ (n : ℕ). ReplyChecked s.head s.edges s.pending s.processes s.batch a mask n (reply_of ys)) (length-map ys emission_of ∙ e) (v.passes.checked s.pending)

    enqueueable : Fits s.head.next s.head.pending k → Enqueueable (tail_of s.head) (length ys) s.pending
    enqueueable f = record {
      places = omega (arith, f.room, e, v.lent.pending_words);
      numbers = omega (arith, f.in_time, e);
      ordered = in_order s.head s.edges s.pending s.processes s.batch v.lent.passes;
      newest = newest s.head s.edges s.pending s.processes s.batch v.lent.passes;
    }

    batch_there : 8 * s.head.batch ≤ length s.batch
    batch_there = (findable s.head s.edges s.pending s.processes s.batch v.lent).0

    -- The second pass went over them too, and left the pending words u.
    module _ (u : List ℕ) (c : Counters) (r : CallResult) where
      pub committed : FinalCheck a s.head.next s.head.pending k (Ok tt) → (t : Tail) → Enqueued (tail_of s.head) (reply_of ys) s.pending t u → CommitsTo (with_pending s u) c a k r → Executes (HandBack mask (reply_of ys)) s c r.answer r.state r.counters
      unfolding Ends
      committed f t q m =
          let n : length (reply_of ys) ≡ k = length-map ys emission_of ∙ e in
          let l : events_of (s.head.pending + k) u ≡ queue (events_of s.head.pending s.pending) s.head.next (messages (reply_of ys)) = rw n at q.events in
          subst (λ (i : Runtime). Executes (HandBack mask (reply_of ys)) s c r.answer i r.counters) (sym m.left)
          (carries_back s c (after_of r) u r.state.processes r.state.batch mask (reply_of ys) (m.ends s.edges s.pending a in_hand_holds f.0 refl mask (reply_of ys) reply_checked l))

      pub poisoned : (x : Refusal) → FinalCheck a s.head.next s.head.pending k (Err x) → u ≡ s.pending → PoisonsTo (with_pending s u) c x r → Executes (HandBack mask (reply_of ys)) s c r.answer r.state r.counters
      unfolding Finishes
      poisoned x f q m =
          subst (λ (i : Runtime). Executes (HandBack mask (reply_of ys)) s c r.answer i r.counters) (sym (m.left ∙ ap (λ (p : List ℕ). record { edges = s.edges; pending = p; processes = s.processes; batch = r.state.batch; head = r.state.head }) q))
          (carries_back s c (after_of r) s.pending s.processes r.state.batch mask (reply_of ys) (f s.head c s.edges s.pending s.processes s.batch (after_of r) r.state.batch refl refl in_hand_holds m.poisons mask (reply_of ys) reply_checked))

-- What all checks say of a reply asks for the second pass, and behind it for the end.
module _ (s : Runtime) (mask : ℕ) (o : Opened) (ys : List Emission) (w : Opens s mask o) where
  pub admitted : (r : Result ReplyCheck Refusal) → Scanned o.words s.head o.check ys r → (p : Result Tail Refusal) → AdmissionOf r s.head (length ys) p → Admitted s.pending p ys
  admitted (Ok a) t (Ok q) d = rw d.0 (enqueueable s mask ys a (passed_from s mask o.words o.check w ys a t) (length ys) refl d.1.1)
  admitted r t (Err y) d = tt
  admitted (Err x) t (Ok q) d = absurd cc

  pub closable : (r : Result ReplyCheck Refusal) → Scanned o.words s.head o.check ys r → (p : Result Tail Refusal) → AdmissionOf r s.head (length ys) p → (u : List ℕ) (q : Result Tail Refusal) → Queued s.pending p ys u q → Closable (with_pending s u) r q (length ys)
  closable (Err x) t p d u q z = tt
  closable (Ok a) t (Ok g) d u (Ok h) z =
      let v = passed_from s mask o.words o.check w ys a t in
      endable s.head s.edges s.pending s.processes s.batch u (length ys) (in_hand_holds s mask ys a v) d.1.1 (z.same ∙ v.lent.pending_words)
  closable (Ok a) t (Ok g) d u (Err y) z = absurd z
  closable (Ok a) t (Err x) d u (Ok h) z = absurd cc
  closable (Ok a) t (Err x) d u (Err y) z = batch_there s mask ys a (passed_from s mask o.words o.check w ys a t) (length ys) refl

-- What all checks say, where the first pass stopped, where they refuse, and where the round is admitted.
module _ (r : Result ReplyCheck Refusal) (h : Header) (k : ℕ) where
  pub admission_stopped : (x : Refusal) → r ≡ Err x → (p : Result Tail Refusal) → IsErrAnd p (λ y. y ≡ x) → AdmissionOf r h k p
  admission_stopped x e p i = let j = err_from_is_err_and p i in rw e (j.1 ∙ ap Err j.2)

  module _ (a : ReplyCheck) (e : r ≡ Ok a) where
    pub admission_lost : (x : Refusal) → FinalCheck a h.next h.pending k (Err x) → (p : Result Tail Refusal) → IsErrAnd p (λ y. y ≡ x) → AdmissionOf r h k p
    admission_lost x f p i = let j = err_from_is_err_and p i in rw (e, j.1, j.2) f

    pub admission_passed : FinalCheck a h.next h.pending k (Ok tt) → AdmissionOf r h k (Ok (tail_of h))
    admission_passed f = rw e (refl, f)

-- The end of a call, with s the runtime after the second pass.
module _ (s : Runtime) (c : Counters) where
  unadmitted : (Q : List ℕ) (ys : List Emission) (x : Refusal) (h : Header) (k : ℕ) (p q : Result Tail Refusal) → p ≡ Err x → Queued Q p ys s.pending q → s.pending ≡ Q
  unadmitted Q ys x h k (Err y) q e z = z.1
  unadmitted Q ys x h k (Ok t) q e z = absurd cc

  pub closes_as_given : (x : Refusal) (q : Result Tail Refusal) (k : ℕ) (r : CallResult) → r ≡ given_back s c x → Closes s c (Err x) q k r
  unfolding Closes
  closes_as_given x q k r e Q mask o ys p w t d z n =
      let i = with_pending s Q in
      subst (λ (y : CallResult). Executes (HandBack mask (reply_of ys)) i c y.answer y.state y.counters) (sym e)
      (subst (λ (u : List ℕ). Executes (HandBack mask (reply_of ys)) i c (Err x) (with_pending s u) c) (sym (unadmitted Q ys x s.head k p q d z)) (given_back_from i mask o.words o.check w ys x t c))

  pub closes_committed : (a : ReplyCheck) (t : Tail) (k : ℕ) (r : CallResult) → CommitsTo s c a k r → Closes s c (Ok a) (Ok t) k r
  unfolding Closes
  closes_committed a t k r m Q mask o ys p w f d z n = committed_by p d z
    where
      v : Passed (with_pending s Q) mask ys a
      v = passed_from (with_pending s Q) mask o.words o.check w ys a f

      committed_by : (p : Result Tail Refusal) → AdmissionOf (Ok a) s.head k p → Queued Q p ys s.pending (Ok t) → Executes (HandBack mask (reply_of ys)) (with_pending s Q) c r.answer r.state r.counters
      committed_by (Ok g) d z = committed (with_pending s Q) mask ys a v k n s.pending c r d.1 t (rw d.0 at z) m
      committed_by (Err y) d z = absurd cc

  pub closes_poisoned : (a : ReplyCheck) (x : Refusal) (k : ℕ) (r : CallResult) → PoisonsTo s c x r → Closes s c (Ok a) (Err x) k r
  unfolding Closes
  closes_poisoned a x k r m Q mask o ys p w f d z n = poisoned_by p d z
    where
      v : Passed (with_pending s Q) mask ys a
      v = passed_from (with_pending s Q) mask o.words o.check w ys a f

      poisoned_by : (p : Result Tail Refusal) → AdmissionOf (Ok a) s.head k p → Queued Q p ys s.pending (Err x) → Executes (HandBack mask (reply_of ys)) (with_pending s Q) c r.answer r.state r.counters
      poisoned_by (Ok g) d z = absurd z
      poisoned_by (Err y) d z = poisoned (with_pending s Q) mask ys a v k n s.pending c r x (rw (sym (same_err x y z.0)) at d) z.1 m

-- So a reply that was passed twice, which made u of the pending words, is handed back.
pub carries : (s : Runtime) (c : Counters) (mask : ℕ) (o : Opened) (ys : List Emission) (a : Result ReplyCheck Refusal) (p q : Result Tail Refusal) (u : List ℕ) (r : CallResult) → Opens s mask o → Scanned o.words s.head o.check ys a → AdmissionOf a s.head (length ys) p
    → Queued s.pending p ys u q → Closes (with_pending s u) c a q (length ys) r → Executes (HandBack mask (reply_of ys)) s c r.answer r.state r.counters
unfolding Closes
carries s c mask o ys a p q u r w t d z k = k s.pending mask o ys p w t d z refl
