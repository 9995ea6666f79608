-- What a call can do, once for all invariants: P of each outcome gives P of the call.
use mathlib.Core.Path.{◌≡◌, refl}
use mathlib.Core.Bool.{true, false, not}
use mathlib.Core.List.{List, [], ◌∷◌}
use Prim.Native.Nat.{ℕ, suc, ◌+◌, ◌≤◌, ◌<◌}
use lib.Dec.{eqb}
use lib.ListN.{length}
use borrow.Author.Tests.{leb-false, ltb-false}
use Rattle.rules.specs.Base.{non_empty}
use Rattle.rules.specs.State.{Event, Message, Stored, unset, stored, State, Counters, numbered, with_pending, with_run, with_batch, closed, poison, max_tick, max_count}
use Rattle.rules.specs.Answers
use Rattle.rules.specs.Answers.{Refusal, refusal_number, Accepted, Batch, Advanced, Finished, Committed, Refused}
use Rattle.rules.specs.Rows.{Row, unless, Out, out, refuse}
use Rattle.rules.specs.Pending.{insert}
use Rattle.rules.specs.Foreign.{foreign}
use Rattle.rules.specs.Initial.{initial_rows, add_initial}
use Rattle.rules.specs.Begin.{previous, begin_rows, begin}
use Rattle.rules.specs.Refresh.{refreshed}
use Rattle.rules.specs.Step.{taken_at, spent, any_advanced, null_messages_of, advanced, count_advance, complete, advance, step_run, step_at, step_rows, step}
use Rattle.rules.specs.HandBack.{Emission, malformed, emission_rows, process_rows, poison_rows, hand_back_rows, handled, count_round, commit, commit_at, poison_with, hand_back}
use Rattle.rules.proofs.Tests.{by_test, or_left, or_right, not_true, not_false}
use Rattle.rules.proofs.Lists.{All, all_append, empty_nil}
use Rattle.rules.proofs.Table.{Passed, by_firsts, firsts_all}

-- A refusal that is neither 11 nor 33, and one that is none of 11, 24 and 26 (how hand back's are told apart).
pub record Plain (r : Refusal) : Type 0 where
  pub not_11 : eqb (refusal_number r) 11 ≡ false
  pub not_33 : eqb (refusal_number r) 33 ≡ false

pub record Losing (r : Refusal) : Type 0 where
  pub not_11 : eqb (refusal_number r) 11 ≡ false
  pub not_24 : eqb (refusal_number r) 24 ≡ false
  pub not_26 : eqb (refusal_number r) 26 ≡ false

-- Add initial
pub record InitialPassed (s : State) (m : Message) : Type 0 where
  pub passes : foreign s ≡ false
  pub healthy : s.poisoned ≡ false
  pub opened : s.initial ≡ true
  pub source : m.source < s.n
  pub destination : m.destination < s.n
  pub payload : length m.payload ≤ 16
  pub room : length s.pending < 512
  pub number : s.next + 1 ≤ max_count

pub record InitialCases (s : State) (c : Counters) (m : Message) (P : Out → Type 0) : Type 0 where
  pub foreign : foreign s ≡ true → P (refuse s c Answers.ForeignState)
  pub refused : (r : Refusal) → Plain r → P (refuse s c r)
  pub accept : InitialPassed s m → P (out Accepted (with_pending s (insert (numbered m s.next) s.pending) (suc s.next)) c)

pub by_initial : (s : State) (c : Counters) (m : Message) (P : Out → Type 0) → InitialCases s c m P → P (add_initial s c m)
unfolding add_initial refusal_number
by_initial s c m P k =
    by_firsts P (initial_rows s m) _ _ (
      k.foreign,
      λ a. (
        (λ _. k.refused _ (record { not_11 = refl; not_33 = refl })),
        λ b. (
          (λ _. k.refused _ (record { not_11 = refl; not_33 = refl })),
          λ d. (
            (λ _. k.refused _ (record { not_11 = refl; not_33 = refl })),
            λ e. (
              (λ _. k.refused _ (record { not_11 = refl; not_33 = refl })),
              λ f.
                  ((λ _. k.refused _ (record { not_11 = refl; not_33 = refl })), λ g. ((λ _. k.refused _ (record { not_11 = refl; not_33 = refl })), λ h. ((λ _. k.refused _ (record { not_11 = refl; not_33 = refl })), λ i. ((λ _. k.refused _ (record { not_11 = refl; not_33 = refl })), λ j. tt)))),
            ),
          ),
        ),
      ),
    )
    (λ p. k.accept (record {
      passes = p.0;
      healthy = p.1.0;
      opened = not_false s.initial p.1.1.0;
      source = leb-false s.n m.source p.1.1.1.0;
      destination = leb-false s.n m.destination p.1.1.1.1.0;
      payload = ltb-false 16 (length m.payload) p.1.1.1.1.1.1.0;
      room = leb-false 512 (length s.pending) p.1.1.1.1.1.1.1.0;
      number = ltb-false max_count (s.next + 1) p.1.1.1.1.1.1.1.1.0;
    }))

-- Begin
pub record BeginPassed (s : State) (h : ℕ) : Type 0 where
  pub passes : foreign s ≡ false
  pub healthy : s.poisoned ≡ false
  pub idle : s.running ≡ false
  pub later : previous s.stored ≤ h
  pub below : h < max_tick

pub record BeginCases (s : State) (c : Counters) (h b : ℕ) (P : Out → Type 0) : Type 0 where
  pub foreign : foreign s ≡ true → P (refuse s c Answers.ForeignState)
  pub refused : (r : Refusal) → Plain r → P (refuse s c r)
  pub accept : BeginPassed s h → P (out Accepted (with_run s h b) c)

pub by_begin : (s : State) (c : Counters) (h b : ℕ) (P : Out → Type 0) → BeginCases s c h b P → P (begin s c h b)
unfolding begin refusal_number
by_begin s c h b P k =
    by_firsts P (begin_rows s h) _ _
    (k.foreign, λ x. ((λ _. k.refused _ (record { not_11 = refl; not_33 = refl })), λ y. ((λ _. k.refused _ (record { not_11 = refl; not_33 = refl })), λ z. ((λ _. k.refused _ (record { not_11 = refl; not_33 = refl })), λ u. ((λ _. k.refused _ (record { not_11 = refl; not_33 = refl })), λ v. tt)))))
    (λ p. k.accept (record {
      passes = p.0;
      healthy = p.1.0;
      idle = p.1.1.0;
      later = ltb-false h (previous s.stored) p.1.1.1.0;
      below = leb-false max_tick h p.1.1.1.1.0;
    }))

-- A step in an open run, with nothing in hand.
pub record Steps (s : State) (h b : ℕ) : Type 0 where
  pub passes : foreign s ≡ false
  pub healthy : s.poisoned ≡ false
  pub open_run : s.running ≡ true
  pub empty : s.batch ≡ []
  pub stored : s.stored ≡ stored h b

-- No event was taken, and 24 does not hold: what leads to an advance.
pub record Advances (s : State) (h b : ℕ) : Type 0 where
  pub steps : Steps s h b
  pub none_taken : non_empty (taken_at s h b).events ≡ false
  pub not_spent : spent s h b ≡ false

pub record StepCases (s : State) (c : Counters) (P : Out → Type 0) : Type 0 where
  pub foreign : foreign s ≡ true → P (refuse s c Answers.ForeignState)
  pub refused : (r : Refusal) → Plain r → P (refuse s c r)
  pub batch : (h b : ℕ) → Steps s h b → non_empty (taken_at s h b).events ≡ true → P (out (Batch (taken_at s h b).events s.gvt) (with_batch s (taken_at s h b).events (taken_at s h b).left) c)
  pub spends : (h b : ℕ) → Steps s h b → P (out (Refused (Answers.EventBudgetExceeded b)) (closed s) c)
  pub rise : (h b : ℕ) → Advances s h b → any_advanced s (suc h) ≡ true → P (out (Advanced (advanced s h).gvt) (advanced s h) (count_advance c (null_messages_of s (suc h))))
  pub finish : (h b : ℕ) → Advances s h b → any_advanced s (suc h) ≡ false → complete (advanced s h) (suc h) ≡ true → P (out (Finished (advanced s h).gvt) (closed (advanced s h)) c)
  pub last_branch : (h b : ℕ) → Advances s h b → any_advanced s (suc h) ≡ false → complete (advanced s h) (suc h) ≡ false → P (out (Refused Answers.Poisoned) (poison (advanced s h)) c)

module _ (s : State) (c : Counters) (P : Out → Type 0) (k : StepCases s c P) where
  step_run_holds : (h b : ℕ) → Steps s h b → P (step_run s c h b)
  unfolding step_run advance
  step_run_holds h b i =
      by_test P (λ t. k.batch h b i t) (λ t. by_test P (λ _. k.spends h b i) (λ u.
      by_test P (λ v. k.rise h b (record { steps = i; none_taken = t; not_spent = u }) v)
      (λ v. by_test P (λ w. k.finish h b (record { steps = i; none_taken = t; not_spent = u }) v w) (λ w. k.last_branch h b (record { steps = i; none_taken = t; not_spent = u }) v w))))

  step_at_holds : (l : Stored) → s.stored ≡ l → foreign s ≡ false → s.poisoned ≡ false → s.running ≡ true → s.batch ≡ [] → P (step_at s c l)
  unfolding step_at refusal_number
  step_at_holds unset e a u r z = k.refused _ (record { not_11 = refl; not_33 = refl })
  step_at_holds (stored h b) e a u r z = step_run_holds h b (record { passes = a; healthy = u; open_run = r; empty = z; stored = e })

  pub by_step : P (step s c)
  unfolding step refusal_number
  by_step =
      by_firsts P (step_rows s) _ _
      (k.foreign, λ a. ((λ _. k.refused _ (record { not_11 = refl; not_33 = refl })), λ u. ((λ _. k.refused _ (record { not_11 = refl; not_33 = refl })), λ t. tt)))
      (λ p. step_at_holds s.stored refl p.0 p.1.0 (not_false s.running (or_left (not s.running) (non_empty s.batch) p.1.1.0)) (empty_nil s.batch (or_right (not s.running) (non_empty s.batch) p.1.1.0)))

-- A hand back that is not malformed.
pub record Replies (s : State) (mask : ℕ) (xs : List Emission) : Type 0 where
  pub passes : foreign s ≡ false
  pub healthy : s.poisoned ≡ false
  pub some_batch : non_empty s.batch ≡ true
  pub formed : malformed s.batch mask xs ≡ false

-- One that passed all checks, in a run with horizon h and budget b.
pub record Commits (s : State) (mask : ℕ) (xs : List Emission) (h b : ℕ) : Type 0 where
  pub reply : Replies s mask xs
  pub passed : Passed (poison_rows s mask xs)
  pub stored : s.stored ≡ stored h b

pub record BackCases (s : State) (c : Counters) (mask : ℕ) (xs : List Emission) (P : Out → Type 0) : Type 0 where
  pub foreign : foreign s ≡ true → P (refuse s c Answers.ForeignState)
  pub poisoned : s.poisoned ≡ true → P (refuse s c Answers.Poisoned)
  pub empty : s.batch ≡ [] → P (refuse s c Answers.NoBatch)
  pub malformed : P (refuse s c Answers.MalformedReply)
  pub lost : Replies s mask xs → (r : Refusal) → Losing r → P (poison_with s c r)
  pub no_horizon : Replies s mask xs → s.stored ≡ unset → P (refuse s c Answers.NoBatch)
  pub spends : (h b : ℕ) → Commits s mask xs h b → P (out (Refused (Answers.EventBudgetExceeded b)) (closed (handled s xs)) (count_round c s.batch xs))
  pub commits : (h b : ℕ) → Commits s mask xs h b → let u = refreshed (handled s xs) h s.edges s.inbound s.horizons in P (out (Committed u.gvt) u (count_round c s.batch xs))

-- Q of everything that a row that poisons can refuse with.
pub record Poisons (Q : Refusal → Type 0) : Type 0 where
  pub failed : (p : ℕ) → Q (Answers.HandlerFailed p)
  pub mismatch : (p a : ℕ) → Q (Answers.OutboundSourceMismatch p a)
  pub unknown : (b : ℕ) → Q (Answers.UnknownOutboundDestination b)
  pub unrouted : (a b : ℕ) → Q (Answers.OutboundRouteMissing a b)
  pub overflow : (p t l : ℕ) → Q (Answers.LookaheadOverflow p t l)
  pub violation : (p t u m : ℕ) → Q (Answers.OutboundLookaheadViolation p t u m)
  pub straggler : (b u h : ℕ) → Q (Answers.Straggler b u h)
  pub sequence : Q Answers.EventSequenceOverflow
  pub full : Q Answers.QueueFull

module _ (Q : Refusal → Type 0) (k : Poisons Q) where
  poison_emissions : (s : State) (e : Event) (xs : List Emission) → All (λ (r : Row). Q r.refusal) (emission_rows s e xs)
  unfolding emission_rows
  poison_emissions s e [] = tt
  poison_emissions s e (x ∷ xs) =
      by_test (All (λ (r : Row). Q r.refusal))
      (λ _. (k.mismatch _ _, (k.unknown _, (k.unrouted _ _, (k.overflow _ _ _, (k.violation _ _ _ _, (k.straggler _ _ _, poison_emissions s e xs)))))))
      (λ _. poison_emissions s e xs)

  pub poison_processes : (s : State) (mask : ℕ) (xs : List Emission) (es : List Event) → All (λ (r : Row). Q r.refusal) (process_rows s mask xs es)
  unfolding process_rows
  poison_processes s mask xs [] = tt
  poison_processes s mask xs (e ∷ es) = (k.failed _, all_append (λ (r : Row). Q r.refusal) (emission_rows s e xs) (process_rows s mask xs es) (poison_emissions s e xs) (poison_processes s mask xs es))

  poison_all : (s : State) (mask : ℕ) (xs : List Emission) → All (λ (r : Row). Q r.refusal) (poison_rows s mask xs)
  poison_all s mask xs = all_append (λ (r : Row). Q r.refusal) (process_rows s mask xs s.batch) _ (poison_processes s mask xs s.batch) (k.sequence, (k.full, tt))

-- Every row that poisons is a losing one.
losing : Poisons Losing
unfolding refusal_number
losing =
    let l : (r : Refusal) → eqb (refusal_number r) 11 ≡ false → eqb (refusal_number r) 24 ≡ false → eqb (refusal_number r) 26 ≡ false → Losing r = λ r a b d. record { not_11 = a; not_24 = b; not_26 = d } in
    record {
      failed = λ p. l _ refl refl refl;
      mismatch = λ p a. l _ refl refl refl;
      unknown = λ b. l _ refl refl refl;
      unrouted = λ a b. l _ refl refl refl;
      overflow = λ p t m. l _ refl refl refl;
      violation = λ p t u m. l _ refl refl refl;
      straggler = λ b u h. l _ refl refl refl;
      sequence = l _ refl refl refl;
      full = l _ refl refl refl;
    }

losing_rows : (s : State) (mask : ℕ) (xs : List Emission) → All (λ (r : Row). Losing r.refusal) (poison_rows s mask xs)
losing_rows s mask xs = poison_all Losing losing s mask xs

all_losing : (Q : Refusal → Type 0) → ((r : Refusal) → Losing r → Q r) → (rs : List Row) → All (λ (r : Row). Losing r.refusal) rs → All (λ (r : Row). Q r.refusal) rs
all_losing Q f [] i = tt
all_losing Q f (r ∷ rs) i = (f r.refusal i.0, all_losing Q f rs i.1)

module _ (s : State) (c : Counters) (mask : ℕ) (xs : List Emission) (P : Out → Type 0) (k : BackCases s c mask xs P) where
  back_commit : Replies s mask xs → Passed (poison_rows s mask xs) → (l : Stored) → s.stored ≡ l → P (commit_at s c l xs)
  unfolding commit_at commit
  back_commit i p unset e = k.no_horizon i e
  back_commit i p (stored h b) e = by_test P (λ _. k.spends h b (record { reply = i; passed = p; stored = e })) (λ _. k.commits h b (record { reply = i; passed = p; stored = e }))

  back_checked : Replies s mask xs → P (unless (poison_rows s mask xs) (poison_with s c) (commit_at s c s.stored xs))
  back_checked i =
      by_firsts P (poison_rows s mask xs) _ _
      (firsts_all (λ r. P (poison_with s c r)) (poison_rows s mask xs) (all_losing (λ r. P (poison_with s c r)) (k.lost i) (poison_rows s mask xs) (losing_rows s mask xs)))
      (λ p. back_commit i p s.stored refl)

  pub by_back : P (hand_back s c mask xs)
  unfolding hand_back
  by_back =
      by_firsts P (hand_back_rows s mask xs) _ _
      (k.foreign, λ a. (k.poisoned, λ u. ((λ t. k.empty (empty_nil s.batch (not_true (non_empty s.batch) t))), λ t. ((λ _. k.malformed), λ w. tt))))
      (λ p. back_checked (record { passes = p.0; healthy = p.1.0; some_batch = not_false (non_empty s.batch) p.1.1.0; formed = p.1.1.1.0 }))
