-- What each return of one emission's check gives.
use mathlib.Core.Path.{◌≡◌, refl, sym, ap, ◌∙◌}
use mathlib.Core.Bool.{Bool, true, false, not}
use mathlib.Core.List.{List, ◌++◌, append-nil}
use mathlib.Core.Logic.{⊎_elim}
use Rattle.std.specs.Prelude.{Result, Ok, Err, is_err}
use Prim.Native.Nat.{ℕ, ◌+◌, ◌*◌, ◌-◌, ◌≤◌, ◌<◌}
use native.Mathlib.Omega.{arith}
use lib.Dec.{ltb, eqb}
use lib.ListN.{length, get_or}
use borrow.Author.Tests.{eqb-false}
use Rattle.types.specs.declared.SimTime.{SimTime}
use Rattle.types.specs.Value.{ticks_of, lp_id_of}
use Rattle.types.proofs.Halves.{lt_or_ge}
use Rattle.words.specs.Words.{tick_at}
use Rattle.rules.specs.Base.{if◌then◌otherwise◌, any, any_of}
use Rattle.rules.specs.State.{Event, saturating_add}
use Rattle.rules.specs.Rows.{Row}
use Rattle.rules.specs.Pending.{first_tick, tick_or}
use Rattle.rules.specs.HandBack as Rule
use Rattle.rules.specs.HandBack.{in_batch}
use Rattle.rules.proofs.Tests.{not_both, or_left, or_right}
use Rattle.records.specs.Records.{event_at, events_of}
use Rattle.records.proofs.Stored.{event_tick}
use Rattle.reply_words.specs.declared.Emission.{Emission}
use Rattle.reply_words.specs.Emissions.{emission_of}
use Rattle.reply_words.specs.Replies.{Places, MalformedEmission, malformed_emission}
use Rattle.reply_words.proofs.Table.{absent, past_end, place_first}
use Rattle.hand_back_emission.specs.Checks.{CanCheck, ChecksRows, ChecksEmission}
use Rattle.hand_back_emission.proofs.Checks.{Verdict, checks_same, same_behind, checks_front}
use Rattle.state.specs.declared.Header.{Header}
use Rattle.state.specs.declared.Refusal.{Refusal}
use Rattle.state.specs.declared.Refusal.TheVariants as P
use Rattle.hand_back_check.specs.declared.ReplyCheck.{ReplyCheck}
use Rattle.hand_back_check.specs.EmissionRows.{counted, past_failed, rows_of_next}
use Rattle.hand_back_check.specs.Checks.{Checkable, checked_as, tick_of, NextResult, Checks, ChecksFrom}

-- How many are remote.
module _ (m : ℕ) (e : Emission) (x : Bool) (same : x ≡ eqb (lp_id_of e.destination) (lp_id_of e.source)) where
  pub at_home : x ≡ true → m ≡ counted m (emission_of e)
  unfolding counted if◌then◌otherwise◌
  at_home h = rw (sym same ∙ h)

  pub remote : x ≡ false → (r : ℕ) → r ≡ saturating_add m 1 → r ≡ counted m (emission_of e)
  unfolding counted if◌then◌otherwise◌
  remote h r s = s ∙ rw (sym same ∙ h)

-- The emitter of an emission that is not malformed is in the batch.
emitting : (q : List Event) (mask last : ℕ) (x : Rule.Emission) → malformed_emission q mask last x ≡ false → not (in_batch q x.emitter) ≡ false
unfolding malformed_emission any_of any
emitting q mask last x h = or_left (not (in_batch q x.emitter)) _ (or_right (ltb x.emitter last) _ h)

-- So it has a place in the table T.
pub seated : (q : List Event) (T : List ℕ) (mask last : ℕ) (x : Rule.Emission) → Places q T → malformed_emission q mask last x ≡ false → get_or T x.emitter 0 ≡ 0 → ⊥
seated q T mask last x p h = eqb-false (get_or T x.emitter 0) 0 (sym (absent q T x.emitter p) ∙ emitting q mask last x h)

-- A check that refuses, with rows behind it; one that does not.
refused_stays : (rs ts : List Row) (v : Verdict) → is_err v ≡ true → ChecksRows rs v → ChecksRows (rs ++ ts) v
refused_stays rs ts (Ok _) x j = not_both x refl
refused_stays rs ts (Err y) x j = checks_front rs ts y j

passed_is : (v : Verdict) → is_err v ≡ false → v ≡ Ok tt
passed_is (Ok _) x = refl
passed_is (Err y) x = not_both refl x

pub judgeable : (h : Header) (T Z B : List ℕ) → Checkable h T Z B → CanCheck h Z
judgeable h T Z B s = record { few = s.few; process_words = s.process_words }

-- A check that has stopped.
pub check_stopped : (h : Header) (L : ℕ) (T Z B : List ℕ) (a : Result ReplyCheck Refusal) (e : Emission) → is_err a ≡ true → ChecksFrom h L T Z B a e a
check_stopped h L T Z B (Ok b) e y = not_both y refl
check_stopped h L T Z B (Err x) e y = refl

module _ (h : Header) (L : ℕ) (T Z B : List ℕ) (a : ReplyCheck) (e : Emission) where
  abbrev q : List Event
  q = events_of h.batch B

  -- The check so far stays.
  stays_refused : (t : ℕ) → is_err a.outcome ≡ true → NextResult h L Z t a e a.outcome
  unfolding NextResult
  stays_refused t x E Q W f w rs j = refused_stays rs _ a.outcome x j

  stays_behind : (t : ℕ) → past_failed a.failed (lp_id_of e.emitter) ≡ true → NextResult h L Z t a e a.outcome
  unfolding NextResult rows_of_next if◌then◌otherwise◌
  stays_behind t l E Q W f w rs j = rw (l, append-nil) j

  checks_it : is_err a.outcome ≡ false → past_failed a.failed (lp_id_of e.emitter) ≡ false → (time : SimTime) → (v : Verdict) → ChecksEmission h L Z e time v → NextResult h L Z (ticks_of time) a e v
  unfolding NextResult rows_of_next if◌then◌otherwise◌ ChecksEmission
  checks_it x l time v j E Q W f w rs k = rw l (checks_same _ _ v (same_behind rs _ (rw (passed_is _ x) at k)) (j E Q W f w))

  module _ (s : Checkable h T Z B) (x : Bool) (ill : MalformedEmission a.mask T a.last (emission_of e) x) where
    ill_is : x ≡ malformed_emission q a.mask a.last (emission_of e)
    unfolding MalformedEmission
    ill_is = ill q s.places

    pub check_malformed : x ≡ true → Checks h L T Z B a e (Err P.MalformedReply)
    check_malformed t = record { malformed_holds = sym ill_is ∙ t; refused = refl }

    module _ (f : x ≡ false) (w : ℕ) (same : w ≡ lp_id_of e.emitter) where
      -- The emitter has an event in hand.
      seat : get_or T (lp_id_of e.emitter) 0 ≡ 0 → ⊥
      seat = seated q T a.mask a.last (emission_of e) s.places (sym ill_is ∙ f)

      placed : get_or T (lp_id_of e.emitter) 0 ≡ get_or T (lp_id_of e.emitter) 0 - 1 + 1
      placed = omega (arith, seat)

      tick_is : tick_of T B (lp_id_of e.emitter) ≡ first_tick q (lp_id_of e.emitter) 0
      unfolding first_tick tick_or
      tick_is = let p = place_first B h.batch T (lp_id_of e.emitter) (get_or T (lp_id_of e.emitter) 0 - 1) s.places placed in rw p.1

      emitter-fits : lp_id_of e.emitter < 64
      emitter-fits = ⊎_elim (λ (l : lp_id_of e.emitter < 64). l) (λ (l : 64 ≤ lp_id_of e.emitter). absurd (seat (past_end T (lp_id_of e.emitter) s.place_words l))) (lt_or_ge (lp_id_of e.emitter) 64)

      pub in_hand_holds : (length T ≡ 64) × (length B ≡ 512) × (w < 64) × (0 < get_or T w 0) × (get_or T w 0 ≤ 64)
      in_hand_holds =
          let p = place_first B h.batch T (lp_id_of e.emitter) (get_or T (lp_id_of e.emitter) 0 - 1) s.places placed in
          rw same (s.place_words, s.batch_words, emitter-fits, omega (arith, seat), omega (arith, p.0, s.few_batch))

      module _ (m : ℕ) (c : m ≡ counted a.remote (emission_of e)) where
        pub next : (v : Verdict) → NextResult h L Z (first_tick q (lp_id_of e.emitter) 0) a e v → (r : ReplyCheck) → r ≡ checked_as a w m v → Checks h L T Z B a e (Ok r)
        next v n r y = rw y (record { same_mask = refl; same_failed = refl; not_malformed = sym ill_is ∙ f; last = same; remote = c; outcome_is = n })

        pub check_refused : is_err a.outcome ≡ true → (r : ReplyCheck) → r ≡ checked_as a w m a.outcome → Checks h L T Z B a e (Ok r)
        check_refused o r z = next a.outcome (stays_refused _ o) r z

        pub check_behind : past_failed a.failed w ≡ true → (r : ReplyCheck) → r ≡ checked_as a w m a.outcome → Checks h L T Z B a e (Ok r)
        check_behind l r z = next a.outcome (stays_behind _ (rw same at l)) r z

        pub check_checked : is_err a.outcome ≡ false → past_failed a.failed w ≡ false → (time : SimTime) → ticks_of time ≡ tick_of T B w → (v : Verdict) → ChecksEmission h L Z e time v
            → (r : ReplyCheck) → r ≡ checked_as a w m v → Checks h L T Z B a e (Ok r)
        check_checked y l time u v j r z =
            let t : ticks_of time ≡ first_tick q (lp_id_of e.emitter) 0 = u ∙ ap (tick_of T B) same ∙ tick_is in
            next v (rw (← t) (checks_it y (rw same at l) time v j)) r z

-- The tick of an event in hand.
pub ticked : (B : List ℕ) (k t : ℕ) → t ≡ tick_at B (8 * k + 1) → t ≡ (event_at B k).tick
ticked B k t e = e ∙ sym (event_tick B k)
