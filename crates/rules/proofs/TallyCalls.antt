-- Every call keeps the tally.
use mathlib.Core.Path.{◌≡◌, refl, sym, ap, ◌∙◌}
use mathlib.Core.Bool.{true, false, true≢false}
use mathlib.Core.List.{List, [], ◌∷◌}
use Prim.Native.Nat.{ℕ, suc, ◌+◌, min}
use native.Mathlib.Omega.{arith}
use lib.Dec.{eqb}
use lib.ListN.{length}
use Rattle.rules.specs.State.{Event, Message, State, numbered, with_pending, with_run, with_batch, closed, poison, max_count}
use Rattle.rules.specs.Answers
use Rattle.rules.specs.Answers.{Answer, Accepted, Batch, Advanced, Finished, Committed, Refused, Refusal, refusal_number, number}
use Rattle.rules.specs.Rows.{out, refuse}
use Rattle.rules.specs.Refresh.{refreshed}
use Rattle.rules.specs.Step.{count_raised, null_messages_of, advanced, count_advance}
use Rattle.rules.specs.HandBack.{Emission, messages, handled, count_round}
use Rattle.rules.specs.Calls.{Call, AddInitial, Begin, Step, HandBack, rule}
use Rattle.rules.specs.History.{History, is_initial, is_begin, is_hand_back, emissions, refused, is_committed, is_advanced, is_batch, in_hand, commits}
use Rattle.rules.proofs.Tests.{not_both}
use Rattle.rules.proofs.Cases.{by_initial, by_begin, StepCases, by_step, Commits, BackCases, by_back}
use Rattle.rules.proofs.Shape.{Shaped, passes_11, no_horizon_never}
use Rattle.rules.proofs.Counts.{entry_of, unhandled, handles, no_turn, commit_turn, advance_turn, no_initial, one_initial, used_same, used_more, used_anew, hand_batch, hand_gone, hand_stays}
use Rattle.rules.proofs.Tally.{length_insert, length_messages, length_queue, taken_splits, Tallied, Tells, counted_same, Calm, calm, unmoved, answered_refusal}

-- Add initial

initial_accept : (y : History) (m : Message) (k : ℕ) (q : List Event) → length q ≡ suc (length y.now.pending) → Tallied y → Tells y (AddInitial m) (out Accepted (with_pending y.now q k) y.counters)
unfolding Tells is_initial is_begin is_hand_back refused is_committed is_advanced is_batch
initial_accept y m k q l i =
    let e = entry_of (AddInitial m) Accepted (count_raised y.now.edges y.now.edges) in
    let u = unhandled e y.entries refl in
    record {
      kept = record {
        hand = hand_stays e y.entries refl refl ∙ i.kept.hand;
        lost = i.kept.lost;
        sum = λ p. omega (arith, i.kept.sum p, l, u.handled, u.emitted, one_initial e y.entries refl);
        used = i.kept.used ∙ ap (min max_count) (sym (used_same e y.entries refl refl));
      };
      counted = counted_same y.entries (e ∷ y.entries) y.counters u (no_turn e y.entries refl refl) i.counted;
    }

initial_away : (y : History) (m : Message) (r : Refusal) → Tallied y → Tells y (AddInitial m) (refuse y.now y.counters r)
unfolding is_initial is_begin is_hand_back refused is_committed is_advanced is_batch
initial_away y m r i = answered_refusal y (AddInitial m) (Refused r) y.now (record { no_run = refl; no_event = refl; no_commit = refl; no_advance = refl }) refl refl refl (unmoved y i) i

-- Begin

begin_accept : (y : History) (h b : ℕ) → Tallied y → Tells y (Begin h b) (out Accepted (with_run y.now h b) y.counters)
unfolding Tells is_initial is_begin is_hand_back refused is_committed is_advanced is_batch
begin_accept y h b i =
    let e = entry_of (Begin h b) Accepted (count_raised y.now.edges y.now.edges) in
    let u = unhandled e y.entries refl in
    record {
      kept = record {
        hand = hand_stays e y.entries refl refl ∙ i.kept.hand;
        lost = i.kept.lost;
        sum = λ p. omega (arith, i.kept.sum p, u.handled, u.emitted, no_initial e y.entries refl);
        used = omega (arith, used_anew e y.entries refl);
      };
      counted = counted_same y.entries (e ∷ y.entries) y.counters u (no_turn e y.entries refl refl) i.counted;
    }

begin_away : (y : History) (h b : ℕ) (r : Refusal) → Tallied y → Tells y (Begin h b) (refuse y.now y.counters r)
unfolding is_initial is_begin is_hand_back refused is_committed is_advanced is_batch
begin_away y h b r i = answered_refusal y (Begin h b) (Refused r) y.now (record { no_run = refl; no_event = refl; no_commit = refl; no_advance = refl }) refl refl refl (unmoved y i) i

-- Step

step_away : (y : History) (r : Refusal) (t : State) → t.batch ≡ y.now.batch → Calm y.now t → Tallied y → Tells y Step (out (Refused r) t y.counters)
unfolding is_initial is_begin is_hand_back refused is_committed is_advanced is_batch
step_away y r t z c i = answered_refusal y Step (Refused r) t (record { no_run = refl; no_event = refl; no_commit = refl; no_advance = refl }) refl refl z c i

step_finish : (y : History) (h : ℕ) → Tallied y → Tells y Step (out (Finished (advanced y.now h).gvt) (closed (advanced y.now h)) y.counters)
unfolding is_initial is_begin is_hand_back refused is_committed is_advanced is_batch refreshed
step_finish y h i = answered_refusal y Step (Finished _) (closed (advanced y.now h)) (record { no_run = refl; no_event = refl; no_commit = refl; no_advance = refl }) refl refl refl (record { lost = i.kept.lost; healthy = λ p. p; events = λ _. refl; used = refl }) i

step_batch : (y : History) (bs q : List Event) (g : ℕ) → y.now.poisoned ≡ false → y.now.batch ≡ [] → length q + length bs ≡ length y.now.pending → Tallied y → Tells y Step (out (Batch bs g) (with_batch y.now bs q) y.counters)
unfolding is_initial is_begin is_hand_back refused is_committed is_advanced
step_batch y bs q g p z l i =
    calm y Step (Batch bs g) (with_batch y.now bs q) (record { no_run = refl; no_event = refl; no_commit = refl; no_advance = refl }) (hand_batch Step bs g _ y.entries)
    (record { lost = λ x. not_both x p; healthy = λ x. x; events = λ _. let n : length y.now.batch ≡ 0 = ap length z in omega arith; used = refl }) i

step_rise : (y : History) (h : ℕ) → Tallied y → Tells y Step (out (Advanced (advanced y.now h).gvt) (advanced y.now h) (count_advance y.counters (null_messages_of y.now (suc h))))
unfolding Tells is_initial is_begin is_hand_back refused is_committed is_advanced is_batch refreshed
step_rise y h i =
    let e = entry_of Step (Advanced (advanced y.now h).gvt) (null_messages_of y.now (suc h)) in
    let u = unhandled e y.entries refl in
    let t = advance_turn e y.entries refl refl in
    record {
      kept = record {
        hand = hand_stays e y.entries refl refl ∙ i.kept.hand;
        lost = i.kept.lost;
        sum = λ p. omega (arith, i.kept.sum p, u.handled, u.emitted, no_initial e y.entries refl);
        used = i.kept.used ∙ ap (min max_count) (sym (used_same e y.entries refl refl));
      };
      counted = record {
        handled = omega (arith, u.handled, i.counted.handled);
        emitted = omega (arith, u.emitted, i.counted.emitted);
        remote = omega (arith, u.remote, i.counted.remote);
        rounds = omega (arith, t.rounds, i.counted.rounds);
        null_messages = omega (arith, t.null_messages, i.counted.null_messages);
        worker_count = i.counted.worker_count ∙ sym u.worker_count;
      };
    }

-- Hand back

back_away : (y : History) (mask : ℕ) (xs : List Emission) (r : Refusal) (t : State) → eqb (refusal_number r) 24 ≡ false → eqb (refusal_number r) 26 ≡ false → t.batch ≡ [] → Calm y.now t → Tallied y → Tells y (HandBack mask xs) (out (Refused r) t y.counters)
unfolding is_initial is_begin is_hand_back refused is_committed is_advanced is_batch number
back_away y mask xs r t a b z c i =
    calm y (HandBack mask xs) (Refused r) t (record { no_run = refl; no_event = refl; no_commit = a; no_advance = refl }) (hand_gone (entry_of (HandBack mask xs) (Refused r) _) y.entries refl refl b ∙ sym z) c i

back_malformed : (y : History) (mask : ℕ) (xs : List Emission) → Tallied y → Tells y (HandBack mask xs) (refuse y.now y.counters Answers.MalformedReply)
unfolding is_initial is_begin is_hand_back refused is_committed is_advanced is_batch number refusal_number
back_malformed y mask xs i =
    calm y (HandBack mask xs) (Refused Answers.MalformedReply) y.now (record { no_run = refl; no_event = refl; no_commit = refl; no_advance = refl }) (hand_stays (entry_of (HandBack mask xs) (Refused Answers.MalformedReply) _) y.entries refl refl ∙ i.kept.hand) (unmoved y i) i

-- The batch was handled: Committed, or 24. In t the emissions are pending and nothing is in hand.
pub record Done (s t : State) (xs : List Emission) : Type 0 where
  pub empty : t.batch ≡ []
  pub healthy : t.poisoned ≡ false
  pub before : s.poisoned ≡ false
  pub pending : length t.pending ≡ length s.pending + length xs
  pub used : t.used ≡ min max_count (s.used + length s.batch)

back_done : (y : History) (mask : ℕ) (xs : List Emission) (a : Answer) (t : State) → let e = entry_of (HandBack mask xs) a (count_raised y.now.edges t.edges) in
    commits e ≡ true → is_advanced a ≡ false → in_hand (e ∷ y.entries) ≡ [] → Done y.now t xs → Tallied y → Tells y (HandBack mask xs) (out a t (count_round y.counters y.now.batch xs))
unfolding Tells is_initial is_begin emissions
back_done y mask xs a t k d z g i =
    let e = entry_of (HandBack mask xs) a (count_raised y.now.edges t.edges) in
    let u = handles e y.entries k in
    let v = commit_turn e y.entries k d in
    let n : length (in_hand y.entries) ≡ length y.now.batch = ap length i.kept.hand in
    let o : length t.batch ≡ 0 = ap length g.empty in
    record {
      kept = record {
        hand = z ∙ sym g.empty;
        lost = λ p. not_both p g.healthy;
        sum = λ _. omega (arith, i.kept.sum g.before, g.pending, u.handled, u.emitted, no_initial e y.entries refl);
        used = omega (arith, g.used, i.kept.used, used_more e y.entries refl k);
      };
      counted = record {
        handled = omega (arith, u.handled, i.counted.handled);
        emitted = omega (arith, u.emitted, i.counted.emitted);
        remote = omega (arith, u.remote, i.counted.remote);
        rounds = omega (arith, v.rounds, i.counted.rounds);
        null_messages = omega (arith, v.null_messages, i.counted.null_messages);
        worker_count = omega (arith, u.worker_count, i.counted.worker_count);
      };
    }

back_spends : (y : History) (mask : ℕ) (xs : List Emission) (h b : ℕ) → Commits y.now mask xs h b → Tallied y → Tells y (HandBack mask xs) (out (Refused (Answers.EventBudgetExceeded b)) (closed (handled y.now xs)) (count_round y.counters y.now.batch xs))
unfolding is_hand_back refused is_committed is_advanced is_batch number refusal_number
back_spends y mask xs h b k i =
    back_done y mask xs (Refused (Answers.EventBudgetExceeded b)) (closed (handled y.now xs)) refl refl (hand_gone (entry_of (HandBack mask xs) (Refused (Answers.EventBudgetExceeded b)) _) y.entries refl refl refl)
    (record { empty = refl; healthy = k.reply.healthy; before = k.reply.healthy; pending = omega (arith, length_queue y.now.pending y.now.next (messages xs), length_messages xs); used = refl }) i

back_commits : (y : History) (mask : ℕ) (xs : List Emission) (h b : ℕ) → Commits y.now mask xs h b → Tallied y
    → let t = refreshed (handled y.now xs) h y.now.edges y.now.inbound y.now.horizons in Tells y (HandBack mask xs) (out (Committed t.gvt) t (count_round y.counters y.now.batch xs))
unfolding is_hand_back refused is_committed is_advanced is_batch number refreshed
back_commits y mask xs h b k i =
    back_done y mask xs (Committed _) _ refl refl (hand_gone (entry_of (HandBack mask xs) (Committed _) _) y.entries refl refl refl)
    (record { empty = refl; healthy = k.reply.healthy; before = k.reply.healthy; pending = omega (arith, length_queue y.now.pending y.now.next (messages xs), length_messages xs); used = refl }) i

-- Every call

module _ (y : History) (w : Shaped y.now) (i : Tallied y) where
  step_cases : StepCases y.now y.counters (Tells y Step)
  unfolding refreshed
  step_cases = record {
    foreign = λ f. not_both f (passes_11 y.now w);
    refused = λ r _. step_away y r y.now refl (unmoved y i) i;
    batch = λ h b k _. step_batch y _ _ _ k.healthy k.empty (taken_splits y.now h b) i;
    spends = λ h b k. step_away y _ (closed y.now) refl (record { lost = i.kept.lost; healthy = λ p. p; events = λ _. refl; used = refl }) i;
    rise = λ h b k _. step_rise y h i;
    finish = λ h b k _ _. step_finish y h i;
    last_branch = λ h b k _ _. step_away y _ (poison (advanced y.now h)) (sym k.steps.empty) (record { lost = λ _. refl; healthy = λ p. absurd (true≢false p); events = λ p. absurd (true≢false p); used = refl }) i;
  }

  back_cases : (mask : ℕ) (xs : List Emission) → BackCases y.now y.counters mask xs (Tells y (HandBack mask xs))
  unfolding refusal_number
  back_cases mask xs = record {
    foreign = λ f. not_both f (passes_11 y.now w);
    poisoned = λ p. back_away y mask xs _ y.now refl refl (i.kept.lost p) (unmoved y i) i;
    empty = λ z. back_away y mask xs _ y.now refl refl z (unmoved y i) i;
    malformed = back_malformed y mask xs i;
    lost = λ _ r l. back_away y mask xs r (poison y.now) l.not_24 l.not_26 refl (record { lost = λ _. refl; healthy = λ p. absurd (true≢false p); events = λ p. absurd (true≢false p); used = refl }) i;
    no_horizon = λ k u. no_horizon_never y.now w k.some_batch u;
    spends = λ h b k. back_spends y mask xs h b k i;
    commits = λ h b k. back_commits y mask xs h b k i;
  }

  pub tells : (k : Call) → Tells y k (rule y.now y.counters k)
  unfolding rule
  tells (AddInitial m) = by_initial y.now y.counters m (Tells y (AddInitial m)) (record { foreign = λ f. not_both f (passes_11 y.now w); refused = λ r _. initial_away y m r i; accept = λ _. initial_accept y m _ _ (length_insert (numbered m y.now.next) y.now.pending) i })
  tells (Begin h b) = by_begin y.now y.counters h b (Tells y (Begin h b)) (record { foreign = λ f. not_both f (passes_11 y.now w); refused = λ r _. begin_away y h b r i; accept = λ _. begin_accept y h b i })
  tells Step = by_step y.now y.counters (Tells y Step) step_cases
  tells (HandBack mask xs) = by_back y.now y.counters mask xs (Tells y (HandBack mask xs)) (back_cases mask xs)
