-- Rows 19 and 18, and the end of the round, in the rules' `hand_back`.
use mathlib.Core.Path.{◌≡◌, refl, sym, ap, subst, ◌∙◌}
use mathlib.Core.Bool.{true, false}
use mathlib.Core.List.{List, [], ◌∷◌}
use Rattle.std.specs.Prelude.{Err}
use Prim.Native.Nat.{ℕ, ◌+◌, ◌≤◌, ◌<◌}
use native.Mathlib.Omega.{arith}
use lib.Dec.{ltb}
use lib.ListN.{length}
use borrow.Author.Tests.{lt-ltb, le-ltb}
use Rattle.types.specs.Value.{ticks_of}
use Rattle.words.specs.Words.{tab}
use Rattle.words.proofs.Tab.{length_tab}
use Rattle.records.specs.Records.{event_at, events_of}
use Rattle.rules.specs.Base.{if◌then◌otherwise◌, count}
use Rattle.rules.specs.State as R
use Rattle.rules.specs.State.{Event, State, Stored, stored, saturating_add, max_count, max_pending, with_handled}
use Rattle.rules.specs.Answers as A
use Rattle.rules.specs.Rows.{Row, ◌⇒◌, unless, Out, out}
use Rattle.rules.specs.Pending.{queue}
use Rattle.rules.specs.HandBack.{Emission, messages, is_remote, count_round, handled, commit, commit_at, poison_with}
use Rattle.rules.proofs.Lists.{All}
use Rattle.rules.proofs.Shape as Shape
use Rattle.rules.proofs.Shape.{shaped}
use Rattle.rules.proofs.ShapeCalls.{Fit, queued_all}
use Rattle.rules.proofs.Tally.{length_messages}
use Rattle.state.specs.declared.Header.{Header}
use Rattle.state.specs.declared.Counters.{Counters}
use Rattle.state.specs.declared.CoreResult.{CoreResult}
use Rattle.state.specs.declared.Refusal.TheVariants as P
use Rattle.state.specs.View.{view, counters_of, answer_of}
use Rattle.state.specs.Headers.{committed_header}
use Rattle.state.specs.AsGiven.{leaves_state_as_given}
use Rattle.state.specs.ValidArrays.{ValidArrays}
use Rattle.state.proofs.Facts.{few_pending, is_stored, stored_is, batch_runs}
use Rattle.state.proofs.Moves.{overflow_moves, full_moves}
use Rattle.hand_back_end.specs.EndsRound.{CountsRound, Poisons, round_ended, EndsRound}

-- The two rows of the emissions xs, and what follows them.
abbrev pub last_queue_rows : State → List Emission → List Row
last_queue_rows s xs = (ltb max_count (s.next + length xs) ⇒ A.EventSequenceOverflow) ∷ (ltb max_pending (length s.pending + length xs) ⇒ A.QueueFull) ∷ []

unfoldable pub settled : State → R.Counters → List Emission → Out
settled s c xs = unless (last_queue_rows s xs) (poison_with s c) (commit_at s c s.stored xs)

-- Of emissions that 26 and 28 to 33 let pass.
pub record Settles (h : Header) (c : Counters) (edges pending processes batch : List ℕ) (xs : List Emission) (r : CoreResult) (pending' processes' batch' : List ℕ) : Type 0 where
  pub gives : All (Fit h.n) (messages xs)
      → out (answer_of (events_of r.head.batch batch') r.answer) (view r.head edges pending' processes' batch') (counters_of r.counters) ≡ settled (view h edges pending processes batch) (counters_of c) xs
  pub moves : (es : List Event) → leaves_state_as_given (answer_of es r.answer) ≡ false

module _ (s : State) (c : R.Counters) (xs : List Emission) where
  row_19 : ltb max_count (s.next + length xs) ≡ true → settled s c xs ≡ poison_with s c A.EventSequenceOverflow
  unfolding settled unless if◌then◌otherwise◌
  row_19 a = rw a

  row_18 : ltb max_count (s.next + length xs) ≡ false → ltb max_pending (length s.pending + length xs) ≡ true → settled s c xs ≡ poison_with s c A.QueueFull
  unfolding settled unless if◌then◌otherwise◌
  row_18 a b = rw (a, b)

  passed : ltb max_count (s.next + length xs) ≡ false → ltb max_pending (length s.pending + length xs) ≡ false → (l : Stored) → s.stored ≡ l → settled s c xs ≡ commit_at s c l xs
  unfolding settled unless if◌then◌otherwise◌
  passed a b l e = rw (a, b, e)

  commits : (h b : ℕ) → commit_at s c (stored h b) xs ≡ round_ended (handled s xs) (count_round c s.batch xs) h b
  unfolding commit_at commit round_ended
  commits h b = refl

-- A reply of the k emissions xs, with a batch in hand in a state that 11 let pass.
module _ (h : Header) (c : Counters) (E Q Z B : List ℕ) (xs : List Emission) (k : ℕ) (n : length xs ≡ k) (m : ValidArrays h E Q Z B) (hand : 0 < h.batch) where
  pub settle_late : (r : CoreResult) (B' : List ℕ) → max_count < h.next + k → Poisons (Err P.EventSequenceOverflow) h c r → Settles h c E Q Z B xs r Q Z B'
  unfolding tab
  settle_late r B' l e = rw e (record { gives = λ _. sym (row_19 (view h E Q Z B) (counters_of c) xs (lt-ltb max_count (h.next + length xs) (omega (arith, n)))); moves = λ es. overflow_moves })

  module _ (a : h.next + k ≤ 18446744073709551615) where
    in_time : ltb max_count (h.next + length xs) ≡ false
    in_time = le-ltb max_count (h.next + length xs) (omega (arith, n))

    few : h.pending ≤ 512
    few = few_pending h E Q Z B m.passes

    pub settle_full : (r : CoreResult) (B' : List ℕ) → max_pending < h.pending + k → Poisons (Err P.QueueFull) h c r → Settles h c E Q Z B xs r Q Z B'
    unfolding tab
    settle_full r B' l e =
        rw e (record {
          gives = λ _. sym (row_18 (view h E Q Z B) (counters_of c) xs in_time
              (lt-ltb max_pending (length (events_of h.pending Q) + length xs) (omega (arith, n, length_tab (event_at Q) 0 h.pending))));
          moves = λ es. full_moves;
        })

    module _ (b : h.pending + k ≤ 512) where
      roomy : ltb max_pending (length (events_of h.pending Q) + length xs) ≡ false
      roomy = le-ltb max_pending (length (events_of h.pending Q) + length xs) (omega (arith, few, n, length_tab (event_at Q) 0 h.pending))

      runs : h.running ≡ true
      runs = batch_runs h E Q Z B m.passes (hand)

      -- The events queued are such as 11 lets pass.
      queued : (Q' B' : List ℕ) → All (Fit h.n) (messages xs) → (u : ℕ) → view (committed_header h k u) E Q' Z B' ≡ handled (view h E Q Z B) xs → Shape.Queued h.n (h.next + k) (events_of (h.pending + k) Q')
      queued Q' B' fit u st =
          let q = queued_all h.n h.next (events_of h.pending Q) (messages xs) fit (omega (arith, few, n, length_messages xs, length_tab (event_at Q) 0 h.pending)) (shaped (view h E Q Z B) m.passes).queued in
          let e : h.next + length (messages xs) ≡ h.next + k = omega (arith, n, length_messages xs) in
          let p : events_of (h.pending + k) Q' ≡ queue (events_of h.pending Q) h.next (messages xs) = ap (λ (s : State). s.pending) st in
          subst (λ (x : ℕ). Shape.Queued h.n x (events_of (h.pending + k) Q')) e (subst (Shape.Queued h.n (h.next + length (messages xs))) (sym p) q)

      -- The emissions are queued in Q'.
      module _ (Q' B' : List ℕ) (q : events_of (h.pending + k) Q' ≡ queue (events_of h.pending Q) h.next (messages xs)) where
        abbrev u : ℕ
        u = saturating_add h.used h.batch

        left : view (committed_header h k u) E Q' Z B' ≡ handled (view h E Q Z B) xs
        unfolding tab
        left =
            let i : h.next + k ≡ h.next + length xs = omega arith in
            let v : u ≡ saturating_add h.used (length (events_of h.batch B)) = ap (saturating_add h.used) (sym (length_tab (event_at B) 0 h.batch)) in
            λ j. with_handled (view h E Q Z B) (q j) (i j) (v j)

        pub settle_on : (d : Counters) (remote : ℕ) (Z' : List ℕ) (r : CoreResult) → remote ≡ count is_remote xs → CountsRound c h.batch k remote d → EndsRound (committed_header h k u) d Q' Z r Z' → Settles h c E Q Z B xs r Q' Z' B'
        unfolding CountsRound
        settle_on d remote Z' r er ct cn =
            let cs : counters_of d ≡ count_round (counters_of c) (events_of h.batch B) xs = ct (events_of h.batch B) xs (length_tab (event_at B) 0 h.batch) n (sym er) in
            let is : (view h E Q Z B).stored ≡ stored (ticks_of h.horizon) h.budget = stored_is h.stored (ticks_of h.horizon) h.budget (is_stored h E Q Z B m.passes runs) in
            record {
              gives = λ fit. cn.gives E B' (queued Q' B' fit u left)
                  ∙ (λ i. round_ended (left i) (cs i) (ticks_of h.horizon) h.budget)
                  ∙ sym (passed (view h E Q Z B) (counters_of c) xs in_time roomy (stored (ticks_of h.horizon) h.budget) is
                  ∙ commits (view h E Q Z B) (counters_of c) xs (ticks_of h.horizon) h.budget);
              moves = cn.moves;
            }
