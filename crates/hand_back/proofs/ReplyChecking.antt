-- What each return of hand back gives.
use mathlib.Core.Path.{◌≡◌, refl, sym, ap, subst, ◌∙◌}
use mathlib.Core.Bool.{Bool, true, false}
use mathlib.Core.List.{List, []}
use Rattle.std.specs.Prelude.{Option, Result, Ok, Err}
use Rattle.types.specs.declared.LpId.{LpId}
use Prim.Native.Nat.{ℕ, ◌*◌, ◌/◌, ◌≤◌}
use native.Mathlib.Omega.{arith}
use lib.ListN.{length, get_or, length-replicate}
use Rattle.words.specs.Words.{tab, zeroes}
use Rattle.words.proofs.Tab.{length_tab}
use Rattle.records.specs.Records.{edges_of, events_of}
use Rattle.rules.specs.Base.{if◌then◌otherwise◌, count}
use Rattle.rules.specs.HandBack.{Emission, malformed}
use Rattle.hand_back_edges.specs.Looks.{Looks, look_in_table, Rows, CanFind, Found, CanLook}
use Rattle.hand_back_edges.proofs.PlaceRows.{rows_of, noughts}
use Rattle.reply_words.specs.Emissions.{emission_at}
use Rattle.reply_words.specs.Replies.{Places, failed_not_in_batch, FailedNotInBatch, any_malformed_emission}
use Rattle.reply_words.proofs.MalformedReply.{malformed_in_turn}
use Rattle.hand_back_emission.proofs.Checks.{nothing}
use Rattle.hand_back_emission.proofs.InHand.{findable}
use Rattle.hand_back_emission.proofs.KnownEdges.{edges_there, edges_known, edges_ahead}
use Rattle.hand_back_enqueue.specs.declared.Tail.{Tail}
use Rattle.hand_back_enqueue.specs.Enqueued.{Enqueueable, Enqueued}
use Rattle.hand_back_check.specs.declared.ReplyCheck.{ReplyCheck}
use Rattle.hand_back_check.specs.EmissionRows.{first_failed, rows_up_to}
use Rattle.hand_back_check.specs.Checks.{start_of, CheckStarted, Checked}
use Rattle.state.specs.declared.Header.{Header}
use Rattle.state.specs.declared.Counters.{Counters}
use Rattle.state.specs.declared.Refusal.{Refusal}
use Rattle.state.specs.declared.Refusal.TheVariants as P
use Rattle.state.specs.declared.CoreResult.{CoreResult}
use Rattle.state.specs.ValidArrays.{ValidArrays}
use Rattle.state.proofs.Facts.{few_processes, few_edges, few_batch, in_order, newest, below_top, batch_runs}
use Rattle.hand_back_end.specs.EndsRound.{Poisons}
use Rattle.hand_back_commit.specs.HandsBack.{HandsBack}
use Rattle.hand_back_commit.specs.Commits.{InHand, ReplyChecked, Finishes, Fits, Passes, LosesRound, FinalCheck, CanEnd, Ends}
use Rattle.hand_back_commit.proofs.Back.{back_poisoned, back_empty, back_malformed}
use Rattle.hand_back.specs.ReplyChecks.{replied_of, as_given_to, Passed, EarlyRows, Ready, Started, Begins, CanReview, LetsPass, ChecksReply, CanCommit, Commits}

-- 12 and 25.
module _ (h : Header) where
  pub early_12 : h.poisoned ≡ true → EarlyRows h (Err P.Poisoned)
  early_12 p c mask xs E Q Z B l = back_poisoned h c E Q Z B mask xs l p

  module _ (p : h.poisoned ≡ false) where
    pub early_25 : h.batch ≡ 0 → EarlyRows h (Err P.NoBatch)
    early_25 e c mask xs E Q Z B l = back_empty h c E Q Z B mask xs l p e

    pub early_none : (h.batch ≡ 0 → ⊥) → EarlyRows h (Ok tt)
    early_none n = record { healthy = p; in_hand_holds = n }

-- A state that 11 let pass.
pub ready : (h : Header) (E Q Z B : List ℕ) → ValidArrays h E Q Z B → Ready h E B
ready h E Q Z B l = record {
  few = few_processes h E Q Z B l.passes;
  few_edges = few_edges h E Q Z B l.passes;
  few_batch = few_batch h E Q Z B l.passes;
  edge_words = edges_there h E Q Z B l;
  wired = edges_known h E Q Z B l;
  ahead = edges_ahead h E Q Z B l;
  batch_words = (findable h E Q Z B l).0;
  owners = (findable h E Q Z B l).1;
}

-- The start of a check.
module _ (h : Header) (B : List ℕ) (mask : ℕ) (T : List ℕ) where
  module _ (p : Passed h) (pl : Places (events_of h.batch B) T) (x : Bool) (m : FailedNotInBatch mask T x) where
    strange : failed_not_in_batch (events_of h.batch B) mask ≡ x
    unfolding FailedNotInBatch
    strange = sym (m (events_of h.batch B) pl)

    pub begins_unknown : x ≡ true → Begins h B mask (Err P.MalformedReply) T
    begins_unknown t c xs E Q Z l = back_malformed h c E Q Z B mask xs l p.healthy p.in_hand_holds (malformed_in_turn _ mask xs ∙ rw (strange ∙ t))

    pub begins_started : x ≡ false → (f : Option LpId) → f ≡ first_failed mask (events_of h.batch B) → (s : ReplyCheck) → s ≡ start_of mask f → length T ≡ 64 → Begins h B mask (Ok s) T
    begins_started t f i s e k = record { passed = p; known = strange ∙ t; start = e ∙ ap (start_of mask) i; places = pl; place_words = k }

-- A check of no emissions.
module _ (h : Header) (E Z B : List ℕ) (mask : ℕ) (s : ReplyCheck) (T : List ℕ) (b : Started h B mask s T) where
  checks_none : ChecksReply h E Z B mask [] (Ok s)
  unfolding any_malformed_emission rows_up_to count if◌then◌otherwise◌
  checks_none = record {
    passed = b.passed;
    checked = λ Q. record {
      number = refl;
      not_malformed = malformed_in_turn (events_of h.batch B) mask [] ∙ rw b.known;
      failed_is = ap (λ (x : ReplyCheck). x.failed) b.start;
      outcome_is = rw (ap (λ (x : ReplyCheck). x.outcome) b.start) nothing;
      remote = ap (λ (x : ReplyCheck). x.remote) b.start;
    };
  }

  pub checks_empty : (w : List ℕ) → length w / 8 ≡ 0 → ChecksReply h E Z B mask (replied_of w) (Ok s)
  unfolding tab
  checks_empty w e = rw e checks_none

-- From its start to the last emission, where look tells of the edges.
module _ (h : Header) (E Z B : List ℕ) (mask : ℕ) (s : ReplyCheck) (T : List ℕ) (y : Ready h E B) (z : length Z ≡ 256) (w : length B ≡ 512) (b : Started h B mask s T) where
  pub begun : CheckStarted h T Z B s
  begun = record {
    started = b.start ∙ (λ i. start_of (ap (λ (x : ReplyCheck). x.mask) (sym b.start) i) (ap (λ (x : ReplyCheck). x.failed) (sym b.start) i));
    checkable = record { few = y.few; few_batch = y.few_batch; place_words = b.place_words; process_words = z; batch_words = w; places = b.places };
  }

  module _ (look : ℕ → ℕ → ℕ) (rs : Looks (edges_of h.edges E) T look) (xs : List Emission) where
    malformed_is : malformed (events_of h.batch B) mask xs ≡ any_malformed_emission (events_of h.batch B) s.mask 0 xs
    malformed_is = rw (ap (λ (x : ReplyCheck). x.mask) b.start) (malformed_in_turn (events_of h.batch B) mask xs ∙ rw b.known)

    pub checks_reply : (r : Result ReplyCheck Refusal) → Checked h look T Z B s xs r → ChecksReply h E Z B mask xs r
    checks_reply (Ok a) t = record {
      passed = b.passed;
      checked = λ Q. record {
        number = refl;
        not_malformed = malformed_is ∙ t.not_malformed;
        failed_is = t.same_failed ∙ ap (λ (x : ReplyCheck). x.failed) b.start;
        outcome_is = rw t.same_failed (t.outcome_is E Q B y.ahead rs);
        remote = t.remote;
      };
    }
    checks_reply (Err x) t = λ c Q l. rw t.refused (back_malformed h c E Q Z B mask xs l b.passed.healthy b.passed.in_hand_holds (malformed_is ∙ t.malformed_holds))

-- The same with a table t of rows for n events.
module _ (h : Header) (E Z B : List ℕ) (s : ReplyCheck) (T : List ℕ) (n : ℕ) (c : CanReview h E Z B s T n) where
  pub review_begun : CheckStarted h T Z B s
  review_begun = begun h E Z B s.mask s T c.ready c.process_words c.batch_words c.started

  module _ (t : List ℕ) (l : 64 * n ≤ length t) where
    rows : Rows T (length t)
    rows = rows_of B h.batch T c.started.places (length t) c.started.place_words (omega (arith, c.rows))

    pub review_looks : Found E h.edges T t → CanLook E t T
    review_looks f = record { rows = rows; entries = λ j. omega (arith, f.entries j, c.ready.edge_words) }

    pub reviewed : Found E h.edges T t → (xs : List Emission) (r : Result ReplyCheck Refusal) → Checked h (look_in_table E t T) T Z B s xs r → ChecksReply h E Z B s.mask xs r
    reviewed f = checks_reply h E Z B s.mask s T c.ready c.process_words c.batch_words c.started (look_in_table E t T) f.looks

  pub review_finds : (m : ℕ) → 64 * n ≤ m → (t : List ℕ) → t ≡ zeroes m → CanFind E h.edges T t
  review_finds m l t e =
      let k : length t ≡ m = ap length e ∙ length-replicate m 0 in
      record {
        edge_words = c.ready.edge_words;
        few = c.ready.few_edges;
        known = c.ready.wired;
        rows = rows t (omega arith);
        empty = λ j. ap (λ (x : List ℕ). get_or x j 0) e ∙ noughts m j;
      }

-- With rows for fewer events.
pub reviewable : (h : Header) (E Z B : List ℕ) (s : ReplyCheck) (T : List ℕ) (m n : ℕ) → CanReview h E Z B s T m → h.batch ≤ n → CanReview h E Z B s T n
reviewable h E Z B s T m n c l = record { ready = c.ready; process_words = c.process_words; batch_words = c.batch_words; started = c.started; rows = l }

-- The check of a reply that has started.
module _ (h : Header) (E Z B : List ℕ) (mask : ℕ) (s : ReplyCheck) (T : List ℕ) (y : Ready h E B) (z : length Z ≡ 256) (w : length B ≡ 512) (b : Started h B mask s T) where
  own_mask : mask ≡ s.mask
  own_mask = sym (ap (λ (x : ReplyCheck). x.mask) b.start)

  pub can_review : CanReview h E Z B s T 64
  can_review = record { ready = y; process_words = z; batch_words = w; started = rw own_mask at b; rows = y.few_batch }

  pub checks_all : (xs : List Emission) (r : Result ReplyCheck Refusal) → ChecksReply h E Z B s.mask xs r → ChecksReply h E Z B mask xs r
  checks_all xs r c = rw own_mask c

-- A reply in words.
module _ (w : List ℕ) where
  abbrev k : ℕ
  k = length w / 8

  pub whole : 8 * (length w / 8) ≤ length w
  whole = omega arith

  count_is : length (replied_of w) ≡ length w / 8
  count_is = length_tab (emission_at w) 0 (length w / 8)

  module _ (h : Header) (c : Counters) (Q Z B : List ℕ) (a : ReplyCheck) (i : CanCommit h Q Z B) where
    module _ (v : Result (Unit {0}) Refusal) (f : FinalCheck a h.next h.pending k v) where
      sound : v ≡ Ok tt → Passes a × Fits h.next h.pending k
      sound e = rw e at f

      loses : (x : Refusal) → v ≡ Err x → LosesRound a h.next h.pending k x
      loses x e = rw e at f

      pub enqueueable : v ≡ Ok tt → Enqueueable (record { count = h.pending; next = h.next }) k Q
      enqueueable e =
          let fits = (sound e).1 in
          record {
            places = omega (arith, fits.room, i.pending_words);
            numbers = omega (arith, fits.in_time);
            ordered = i.ordered;
            newest = i.newest;
          }

      pub endable : v ≡ Ok tt → (Q' : List ℕ) → length Q' ≡ 4096 → CanEnd h Q' Z B k
      endable e Q' n =
          let fits = (sound e).1 in
          record { few = i.few; pending_words = omega (arith, fits.room); process_words = i.process_words; batch_words = i.batch_words; horizon = i.horizon; fits = fits }

      pub committed : v ≡ Ok tt → (t : Tail) (Q' : List ℕ) → Enqueued (record { count = h.pending; next = h.next }) (replied_of w) Q t Q' → (Z' B' : List ℕ) (r : CoreResult) → Ends h c Q' Z B a.remote k r Z' B' → Commits h c Q Z B a (replied_of w) r Q' Z' B'
      unfolding Ends Commits
      committed s t Q' e Z' B' r n E mask g d = n E Q a g (sound s).0 refl mask (replied_of w) (subst (λ (y : ℕ). ReplyChecked h E Q Z B a mask y (replied_of w)) count_is d) (rw count_is at e.events)

      pub lost : (x : Refusal) → v ≡ Err x → (r : CoreResult) (B' : List ℕ) → Poisons (Err x) h c r → Commits h c Q Z B a (replied_of w) r Q Z B'
      unfolding Finishes Commits
      lost x e r B' d E mask g t = loses x e h c E Q Z B r B' refl refl g d mask (replied_of w) (subst (λ (y : ℕ). ReplyChecked h E Q Z B a mask y (replied_of w)) count_is t)

-- The call.
module _ (h : Header) (c : Counters) (E Q Z B : List ℕ) (mask : ℕ) (xs : List Emission) (l : ValidArrays h E Q Z B) where
  pub handed_as_given : (x : Refusal) → ChecksReply h E Z B mask xs (Err x) → (r : CoreResult) → r ≡ as_given_to h c x → HandsBack h c E Q Z B mask xs r Q Z B
  handed_as_given x v r e = rw e (v c Q l)

  module _ (a : ReplyCheck) (v : LetsPass h E Z B mask xs a) where
    in_hand_holds : InHand h E Q Z B
    in_hand_holds = let p = v.passed in record { lent = l; healthy = p.healthy; in_hand_holds = omega (arith, p.in_hand_holds) }

    pub can_commit : CanCommit h Q Z B
    can_commit = record {
      few = few_processes h E Q Z B l.passes;
      pending_words = l.pending_words;
      process_words = l.process_words;
      batch_words = (findable h E Q Z B l).0;
      ordered = in_order h E Q Z B l.passes;
      newest = newest h E Q Z B l.passes;
      horizon = below_top h E Q Z B l.passes (batch_runs h E Q Z B l.passes in_hand_holds.in_hand_holds);
    }

    pub handed_back : (r : CoreResult) (Q' Z' B' : List ℕ) → Commits h c Q Z B a xs r Q' Z' B' → HandsBack h c E Q Z B mask xs r Q' Z' B'
    unfolding Commits
    handed_back r Q' Z' B' m = m E mask in_hand_holds (v.checked Q)
