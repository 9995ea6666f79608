-- The rows of hand back, each with those before it passed, of a reply in whatever form it was lent.
use mathlib.Core.Path.{◌≡◌, refl, sym, ap, ◌∙◌}
use mathlib.Core.Bool.{true, false, true≢false}
use mathlib.Core.List.{List, []}
use Rattle.std.specs.Prelude.{Ok, Err}
use Prim.Native.Nat.{ℕ}
use native.Mathlib.Omega.{arith}
use Rattle.words.specs.Words.{tab}
use Rattle.records.specs.Records.{event_at, events_of}
use Rattle.rules.specs.Base.{if◌then◌otherwise◌, non_empty}
use Rattle.rules.specs.State as R
use Rattle.rules.specs.State.{Event, State, poison}
use Rattle.rules.specs.Answers as A
use Rattle.rules.specs.Rows.{Row, unless, Out, out, refuse}
use Rattle.rules.specs.Foreign.{foreign}
use Rattle.rules.specs.History as H
use Rattle.rules.specs.HandBack.{Emission, malformed, process_rows, hand_back_rows, messages, poison_with, commit_at, hand_back}
use Rattle.rules.proofs.Tests.{not_both}
use Rattle.rules.proofs.Lists.{All}
use Rattle.rules.proofs.Table.{none_decides, unless_append}
use Rattle.rules.proofs.Shape.{shaped}
use Rattle.rules.proofs.ShapeCalls.{Fit, fits}
use Rattle.hand_back_emission.specs.Checks.{ChecksRows}
use Rattle.state.specs.declared.Header.{Header}
use Rattle.state.specs.declared.Counters.{Counters}
use Rattle.state.specs.declared.CoreResult.{CoreResult}
use Rattle.state.specs.declared.Refusal.{Refusal}
use Rattle.state.specs.declared.Refusal.TheVariants as P
use Rattle.state.specs.View.{view, counters_of, refusal_of}
use Rattle.state.specs.AsGiven.{leaves_state_as_given}
use Rattle.state.specs.ValidArrays.{ValidArrays}
use Rattle.state.proofs.Facts.{some_events, no_events}
use Rattle.state.proofs.Moves.{committed_moves, lost_moves}
use Rattle.hand_back_end.specs.EndsRound.{Poisons}
use Rattle.hand_back_commit.specs.HandsBack.{HandsBack}
use Rattle.hand_back_commit.proofs.QueueRows.{last_queue_rows, settled, Settles}

none_is : (es : List Event) → es ≡ [] → non_empty es ≡ false
unfolding non_empty
none_is es e = rw e

-- The rows, each with those before it passed.
module _ (s : State) (c : R.Counters) (mask : ℕ) (xs : List Emission) (f : foreign s ≡ false) where
  row_12 : s.poisoned ≡ true → hand_back s c mask xs ≡ refuse s c A.Poisoned
  unfolding hand_back unless if◌then◌otherwise◌
  row_12 p = rw (f, p)

  module _ (p : s.poisoned ≡ false) where
    row_25 : non_empty s.batch ≡ false → hand_back s c mask xs ≡ refuse s c A.NoBatch
    unfolding hand_back unless if◌then◌otherwise◌
    row_25 b = rw (f, p, b)

    module _ (b : non_empty s.batch ≡ true) where
      row-26 : malformed s.batch mask xs ≡ true → hand_back s c mask xs ≡ refuse s c A.MalformedReply
      unfolding hand_back unless if◌then◌otherwise◌
      row-26 m = rw (f, p, b, m)

      passed : malformed s.batch mask xs ≡ false → (x : Out) → unless (hand_back_rows s mask xs) (refuse s c) x ≡ x
      unfolding unless if◌then◌otherwise◌
      passed m x = rw (f, p, b, m)

      judged : malformed s.batch mask xs ≡ false → hand_back s c mask xs ≡ unless (process_rows s mask xs s.batch) (poison_with s c) (settled s c xs)
      unfolding hand_back settled
      judged m = passed m _ ∙ unless_append (process_rows s mask xs s.batch) (last_queue_rows s xs) (poison_with s c) (commit_at s c s.stored xs)

-- A reply of the emissions xs, in whatever form they were lent.
module _ (h : Header) (c : Counters) (E Q Z B : List ℕ) (mask : ℕ) (xs : List Emission) (l : ValidArrays h E Q Z B) where
  pub back_poisoned : h.poisoned ≡ true → HandsBack h c E Q Z B mask xs (record { answer = Err P.Poisoned; head = h; counters = c }) Q Z B
  back_poisoned p = record {
    gives = sym (row_12 (view h E Q Z B) (counters_of c) mask xs l.passes p);
    kept = λ es x. record { same_head = refl; same_counters = refl; same_edges = refl; same_pending = refl; same_processes = refl; same_batch = refl };
  }

  module _ (p : h.poisoned ≡ false) where
    pub back_empty : h.batch ≡ 0 → HandsBack h c E Q Z B mask xs (record { answer = Err P.NoBatch; head = h; counters = c }) Q Z B
    back_empty e = record {
      gives = sym (row_25 (view h E Q Z B) (counters_of c) mask xs l.passes p (none_is _ (no_events (event_at B) 0 h.batch (omega arith))));
      kept = λ es x. record { same_head = refl; same_counters = refl; same_edges = refl; same_pending = refl; same_processes = refl; same_batch = refl };
    }

    module _ (n : h.batch ≡ 0 → ⊥) where
      held : non_empty (events_of h.batch B) ≡ true
      held = some_events (event_at B) 0 h.batch (omega arith)

      pub back_malformed : malformed (events_of h.batch B) mask xs ≡ true → HandsBack h c E Q Z B mask xs (record { answer = Err P.MalformedReply; head = h; counters = c }) Q Z B
      back_malformed e = record {
        gives = sym (row-26 (view h E Q Z B) (counters_of c) mask xs l.passes p held e);
        kept = λ es x. record { same_head = refl; same_counters = refl; same_edges = refl; same_pending = refl; same_processes = refl; same_batch = refl };
      }

      module _ (e : malformed (events_of h.batch B) mask xs ≡ false) where
        abbrev rows : List Row
        rows = process_rows (view h E Q Z B) mask xs (events_of h.batch B)

        -- A row decides.
        module _ (x : Refusal) (verdict : ChecksRows rows (Err x)) where
          refused : (d : Out) → unless rows (poison_with (view h E Q Z B) (counters_of c)) d ≡ out (A.Refused (refusal_of x)) (poison (view h E Q Z B)) (counters_of c)
          unfolding ChecksRows
          refused d = verdict (view h E Q Z B) (counters_of c) d

          -- Its answer is none that leaves the state as given, as one that follows the rows.
          lost : leaves_state_as_given (A.Refused (refusal_of x)) ≡ false
          lost =
              let d : Out = out (A.Committed 0) (view h E Q Z B) (counters_of c) in
              ap (λ (o : Out). leaves_state_as_given o.answer) (sym (refused d))
              ∙ lost_moves (view h E Q Z B) (view h E Q Z B) (counters_of c) mask xs (events_of h.batch B) d (committed_moves 0)

          pub back_lost : (r : CoreResult) (B' : List ℕ) → Poisons (Err x) h c r → HandsBack h c E Q Z B mask xs r Q Z B'
          unfolding tab
          back_lost r B' d = rw d (record {
            gives = sym (judged (view h E Q Z B) (counters_of c) mask xs l.passes p held e ∙ refused (settled (view h E Q Z B) (counters_of c) xs));
            kept = λ es y. not_both y lost;
          })

        -- Where no row decides, the emissions may be queued.
        module _ (verdict : ChecksRows rows (Ok tt)) where
          none : (f : A.Refusal → Out) (d : Out) → unless rows f d ≡ d
          unfolding ChecksRows
          none = verdict

          fitting : All (Fit h.n) (messages xs)
          unfolding H.refused
          fitting =
              let s : State = view h E Q Z B in
              let a : Out = out (A.Committed 0) s (counters_of c) in
              fits s mask xs (shaped s l.passes) e (none_decides (process_rows s mask xs s.batch) (poison_with s (counters_of c)) a (λ r z. true≢false (ap (λ (o : Out). H.refused o.answer) z)) (none (poison_with s (counters_of c)) a))

          pub back_settled : (r : CoreResult) (Q' Z' B' : List ℕ) → Settles h c E Q Z B xs r Q' Z' B' → HandsBack h c E Q Z B mask xs r Q' Z' B'
          back_settled r Q' Z' B' d = record {
            gives = d.gives fitting ∙ sym (judged (view h E Q Z B) (counters_of c) mask xs l.passes p held e
                ∙ none (poison_with (view h E Q Z B) (counters_of c)) (settled (view h E Q Z B) (counters_of c) xs));
            kept = λ es y. not_both y (d.moves es);
          }
