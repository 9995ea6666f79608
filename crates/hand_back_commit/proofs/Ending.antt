-- What each return of the last checks and of a round's end gives.
use mathlib.Core.Path.{◌≡◌, refl, sym, subst, ◌∙◌}
use mathlib.Core.Bool.{Bool, true, false, not, ◌&&◌}
use mathlib.Core.List.{List, [], ◌∷◌, ◌++◌, append-nil}
use Rattle.std.specs.Prelude.{Option, Some, None, Ok, Err}
use Prim.Native.Nat.{ℕ, ◌+◌, ◌≤◌, ◌<◌}
use native.Mathlib.Omega.{arith}
use lib.Dec.{ltb}
use lib.ListN.{length}
use borrow.Author.Tests.{ltb-true, ltb-false}
use Rattle.types.specs.declared.LpId.{LpId}
use Rattle.rules.specs.Base.{if◌then◌otherwise◌, up_to, any, any_of, count}
use Rattle.rules.specs.State.{Event, saturating_add, max_count, max_processes, max_pending}
use Rattle.rules.specs.Rows.{Row}
use Rattle.rules.specs.Pending.{queue}
use Rattle.rules.specs.HandBack.{Emission, failed, emitters_fall, in_batch, malformed, messages, is_remote, process_rows}
use Rattle.rules.proofs.Tests.{by_test, or_left, or_right}
use Rattle.rules.proofs.Lists.{All, any_none}
use Rattle.records.specs.Records.{events_of}
use Rattle.hand_back_emission.specs.Checks.{ChecksRows}
use Rattle.hand_back_emission.proofs.Checks.{Verdict, checks_same, same_behind, checks_front, struck}
use Rattle.state.specs.declared.Header.{Header}
use Rattle.state.specs.declared.Counters.{Counters}
use Rattle.state.specs.declared.CoreResult.{CoreResult}
use Rattle.state.specs.declared.Refusal.{Refusal}
use Rattle.state.specs.declared.Refusal.TheVariants as P
use Rattle.state.specs.View.{view}
use Rattle.state.specs.Headers.{committed_header}
use Rattle.state.specs.ValidArrays.{ValidArrays}
use Rattle.state.proofs.Facts.{few_processes, batch_order, below_top, batch_runs}
use Rattle.hand_back_emission.proofs.InHand.{findable}
use Rattle.hand_back_check.specs.declared.ReplyCheck.{ReplyCheck}
use Rattle.hand_back_check.specs.EmissionRows.{failed_row}
use Rattle.hand_back_check.proofs.Turns.{well_formed}
use Rattle.hand_back_check.proofs.InOrder.{rows_alike}
use Rattle.hand_back_end.specs.EndsRound.{CountsRound, Poisons, CanEndRound, EndsRound}
use Rattle.hand_back_commit.specs.HandsBack.{HandsBack}
use Rattle.hand_back_commit.specs.Commits.{InHand, ReplyChecked, Finishes, Fits, refusal_of, FinalCheck, CanEnd, Ends}
use Rattle.hand_back_commit.proofs.QueueRows as S
use Rattle.hand_back_commit.proofs.QueueRows.{Settles}
use Rattle.hand_back_commit.proofs.Back.{back_lost, back_settled}

-- A verdict with 27 behind the rows that a's is of.
record Word (a : ReplyCheck) (v : Verdict) : Type 0 where
  decides : (rs : List Row) → ChecksRows rs a.outcome → ChecksRows (rs ++ failed_row a.failed) v

module _ (a : ReplyCheck) where
  word_refused : (x : Refusal) → a.outcome ≡ Err x → Word a (Err x)
  word_refused x e = record { decides = λ rs j. checks_front rs _ x (rw e at j) }

  module _ (x : a.outcome ≡ Ok tt) where
    word_failed : (p : LpId) → a.failed ≡ Some p → Word a (Err (P.HandlerFailed p))
    word_failed p e = record { decides = λ rs j. rw e (checks_same _ _ _ (same_behind rs _ (rw x at j)) (struck _ [] (P.HandlerFailed p) refl refl)) }

    word_sound : a.failed ≡ None → Word a (Ok tt)
    word_sound e = record { decides = λ rs j. rw (e, append-nil) (rw x at j) }

count_most : (xs : List Emission) → count is_remote xs ≤ length xs
unfolding count if◌then◌otherwise◌
count_most [] = omega arith
count_most (x ∷ xs) = go (is_remote x) (count_most xs)
  where
    go : (t : Bool) → count is_remote xs ≤ length xs → (if t then 1 otherwise 0) + count is_remote xs ≤ length (x ∷ xs)
    go true h = omega arith
    go false h = omega arith

-- No emission is of a failed process.
well : (q : List Event) (mask : ℕ) (xs : List Emission) → malformed q mask xs ≡ false → All (λ (x : Emission). failed mask x.emitter ≡ false) xs
unfolding malformed any_of any
well q mask xs m =
    any_none (λ x. failed mask x.emitter) xs
    (or_left (any (λ x. failed mask x.emitter) xs) _ (or_right (any (λ p. failed mask p && not (in_batch q p)) (up_to max_processes)) _ (or_right (any (λ x. not (in_batch q x.emitter)) xs) _ (or_right (emitters_fall xs) _ m))))

-- A reply of the emissions xs, every one checked.
module _ (h : Header) (c : Counters) (E Q Z B : List ℕ) (a : ReplyCheck) (k : ℕ) (g : InHand h E Q Z B) where
  l : ValidArrays h E Q Z B
  l = g.lent

  none : h.batch ≡ 0 → ⊥
  none z = omega (arith, g.in_hand_holds)

  judges : (v : Verdict) → Word a v → (mask : ℕ) (xs : List Emission) → ReplyChecked h E Q Z B a mask k xs → ChecksRows (process_rows (view h E Q Z B) mask xs (events_of h.batch B)) v
  judges v w mask xs t = checks_same _ _ v (rows_alike (view h E Q Z B) mask (events_of h.batch B) xs (well_formed _ mask xs (batch_order h E Q Z B l.passes) t.not_malformed) (well _ mask xs t.not_malformed)) (rw t.failed_is at (w.decides _ t.outcome_is))

  finish_lost : (x : Refusal) → Word a (Err x) → (r : CoreResult) (B' : List ℕ) → Poisons (Err x) h c r → Finishes h c E Q Z B a k r Q Z B'
  unfolding Finishes
  finish_lost x w r B' d mask xs t = back_lost h c E Q Z B mask xs l g.healthy none t.not_malformed x (judges (Err x) w mask xs t) r B' d

  module _ (w : Word a (Ok tt)) where
    on : (mask : ℕ) (xs : List Emission) → ReplyChecked h E Q Z B a mask k xs → (r : CoreResult) (Q' Z' B' : List ℕ) → Settles h c E Q Z B xs r Q' Z' B' → HandsBack h c E Q Z B mask xs r Q' Z' B'
    on mask xs t = back_settled h c E Q Z B mask xs l g.healthy none t.not_malformed (judges (Ok tt) w mask xs t)

    finish_late : (r : CoreResult) (B' : List ℕ) → max_count < h.next + k → Poisons (Err P.EventSequenceOverflow) h c r → Finishes h c E Q Z B a k r Q Z B'
    unfolding Finishes
    finish_late r B' y d mask xs t = on mask xs t r Q Z B' (S.settle_late h c E Q Z B xs k t.number l g.in_hand_holds r B' y d)

    module _ (y : h.next + k ≤ 18446744073709551615) where
      finish-full : (r : CoreResult) (B' : List ℕ) → max_pending < h.pending + k → Poisons (Err P.QueueFull) h c r → Finishes h c E Q Z B a k r Q Z B'
      unfolding Finishes
      finish-full r B' z d mask xs t = on mask xs t r Q Z B' (S.settle_full h c E Q Z B xs k t.number l g.in_hand_holds y r B' z d)

      finish-on : h.pending + k ≤ 512 → (mask : ℕ) (xs : List Emission) → ReplyChecked h E Q Z B a mask k xs → (Q' B' : List ℕ) → events_of (h.pending + k) Q' ≡ queue (events_of h.pending Q) h.next (messages xs)
          → (d : Counters) (Z' : List ℕ) (r : CoreResult) → CountsRound c h.batch k a.remote d → EndsRound (committed_header h k (saturating_add h.used h.batch)) d Q' Z r Z' → HandsBack h c E Q Z B mask xs r Q' Z' B'
      finish-on z mask xs t Q' B' q d Z' r ct cn =
          let m : a.remote ≡ count is_remote xs = t.remote ∙ omega (arith, count_most xs, t.number) in
          on mask xs t r Q' Z' B' (S.settle_on h c E Q Z B xs k t.number l g.in_hand_holds y z Q' B' q d a.remote Z' r m ct cn)

-- What the program's functions give.
module _ (f : Option LpId) (next pending k : ℕ) where
  pub refusal_27 : (p : LpId) → f ≡ Some p → Err (P.HandlerFailed p) ≡ refusal_of f next pending k
  unfolding refusal_of
  refusal_27 p e = rw e

  module _ (e : f ≡ None) (x : Bool) (ex : x ≡ ltb max_count (next + k)) where
    pub refusal_19 : x ≡ true → Err P.EventSequenceOverflow ≡ refusal_of f next pending k
    unfolding refusal_of if◌then◌otherwise◌
    refusal_19 t = rw (e, sym ex ∙ t)

    module _ (t : x ≡ false) (y : Bool) (ey : y ≡ ltb max_pending (pending + k)) where
      pub refusal_18 : y ≡ true → Err P.QueueFull ≡ refusal_of f next pending k
      unfolding refusal_of if◌then◌otherwise◌
      refusal_18 u = rw (e, sym ex ∙ t, sym ey ∙ u)

      pub refusal_none : y ≡ false → Ok tt ≡ refusal_of f next pending k
      unfolding refusal_of if◌then◌otherwise◌
      refusal_none u = rw (e, sym ex ∙ t, sym ey ∙ u)

module _ (a : ReplyCheck) (next pending k : ℕ) where
  pub last_refused : (x : Refusal) → a.outcome ≡ Err x → FinalCheck a next pending k (Err x)
  last_refused x e h c E Q Z B r B' _ _ g d = finish_lost h c E Q Z B a k g x (word_refused a x e) r B' d

  module _ (x : a.outcome ≡ Ok tt) where
    said : (f : Option LpId) → a.failed ≡ f → FinalCheck a next pending k (refusal_of f next pending k)
    unfolding refusal_of
    said (Some p) e = λ h c E Q Z B r B' _ _ g d. finish_lost h c E Q Z B a k g (P.HandlerFailed p) (word_failed a x p e) r B' d
    said None e =
        by_test (FinalCheck a next pending k)
        (λ u. let v = ltb-true max_count (next + k) u in λ h c E Q Z B r B' n _ g d. finish_late h c E Q Z B a k g (word_sound a x e) r B' (omega arith) d)
        (λ u. let v = ltb-false max_count (next + k) u in by_test (FinalCheck a next pending k)
        (λ m. let w = ltb-true max_pending (pending + k) m in λ h c E Q Z B r B' n p g d. finish-full h c E Q Z B a k g (word_sound a x e) (omega arith) r B' (omega arith) d)
        (λ m. let w = ltb-false max_pending (pending + k) m in (record { passed = x; none_failed = e }, record { in_time = omega arith; room = omega arith })))

    pub last_said : (y : Verdict) → y ≡ refusal_of a.failed next pending k → FinalCheck a next pending k y
    last_said y e = rw e (said a.failed refl)

-- The end of a round.
pub endable : (h : Header) (E Q Z B Q' : List ℕ) (k : ℕ) → InHand h E Q Z B → Fits h.next h.pending k → length Q' ≡ 4096 → CanEnd h Q' Z B k
endable h E Q Z B Q' k g f n =
    let p = g.lent.passes in
    record {
      few = few_processes h E Q Z B p;
      pending_words = omega (arith, f.room);
      process_words = g.lent.process_words;
      batch_words = (findable h E Q Z B g.lent).0;
      horizon = below_top h E Q Z B p (batch_runs h E Q Z B p g.in_hand_holds);
      fits = f;
    }

pub concludable : (h : Header) (Q' Z B : List ℕ) (k u : ℕ) → CanEnd h Q' Z B k → (g : Header) → g ≡ committed_header h k u → CanEndRound g Q' Z
concludable h Q' Z B k u e g y = rw y (record { few = e.few; pending_words = e.pending_words; process_words = e.process_words; horizon = e.horizon })

pub ended : (h : Header) (c : Counters) (Q' Z B : List ℕ) (remote k : ℕ) → CanEnd h Q' Z B k → (g : Header) → g ≡ committed_header h k (saturating_add h.used h.batch) → (d : Counters) → CountsRound c h.batch k remote d
    → (Z' B' : List ℕ) (r : CoreResult) → EndsRound g d Q' Z r Z' → Ends h c Q' Z B remote k r Z' B'
unfolding Ends
ended h c Q' Z B remote k e g y d ct Z' B' r cn E Q a i p m mask xs t q =
    finish-on h c E Q Z B a k i (word_sound a p.passed p.none_failed) e.fits.in_time e.fits.room mask xs t Q' B' q d Z' r (rw m ct) (subst (λ (x : Header). EndsRound x d Q' Z r Z') y cn)
