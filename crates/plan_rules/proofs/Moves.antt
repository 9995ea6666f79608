-- Every call that the host makes keeps what Fit says, and leaves a poisoned runtime only where it ends the run.
use mathlib.Core.Path.{◌≡◌, refl, sym, ap}
use mathlib.Core.Bool.{Bool, true, false}
use mathlib.Core.List.{List, [], ◌∷◌}
use Prim.Native.Nat.{ℕ, zero, suc, ◌≤◌, ◌<◌}
use native.Mathlib.Omega.{arith}
use lib.Dec.{eqb}
use lib.ListN.{length, drop}
use borrow.Author.Tests.{eqb-true, eqb-false}
use Rattle.rules.specs.Base.{if◌then◌otherwise◌, some, non_empty}
use Rattle.rules.specs.State.{Message, Event, unset, State, Counters}
use Rattle.rules.specs.Answers.{Answer, Accepted, Batch, Advanced, Finished, Committed, Read, Planned, Refused, Refusal, refusal_number, number}
use Rattle.rules.specs.Rows.{Out, out, refuse}
use Rattle.rules.specs.Refresh.{refreshed}
use Rattle.rules.specs.HandBack.{Emission}
use Rattle.rules.specs.Calls.{Call, AddInitial, Begin, Step, HandBack, rule}
use Rattle.rules.specs.History.{Entry, History, entry, append_call, is_initial, is_begin, is_hand_back, horizon, emissions, refused, is_committed, is_advanced, initials, in_hand, commits}
use Rattle.rules.proofs.Tests.{by_bool}
use Rattle.rules.proofs.Cases.{by_initial, by_begin, by_step, by_back}
use Rattle.rules.proofs.Counts.{entry_of, hand_batch}
use Rattle.plan_file.specs.Plan.{Plan}
use Rattle.plan_rules.specs.Host.{due, left, or_begin, opening, after, next}
use Rattle.plan_rules.specs.Run.{carried, move}
use Rattle.plan_rules.proofs.Fit.{extra, extra_of, begun, begun_most, Fit, fit_quiet, fit_add, fit_begin, fit_advance, fit_commit}

-- The state as long as initial events are added, before a step, and with a batch in hand.
pub record Waiting (s : State) : Type 0 where
  pub opened : s.initial ≡ true
  pub idle : s.running ≡ false
  pub first_run : s.stored ≡ unset
  pub empty : s.batch ≡ []
  pub healthy : s.poisoned ≡ false

pub record Going (s : State) : Type 0 where
  pub open_run : s.running ≡ true
  pub empty : s.batch ≡ []
  pub healthy : s.poisoned ≡ false

pub record Holding (s : State) : Type 0 where
  pub open_run : s.running ≡ true
  pub some_batch : non_empty s.batch ≡ true
  pub healthy : s.poisoned ≡ false

pub record Phase (p : Plan) (es : List Entry) (s : State) : Type 0 where
  pub first : begun es ≡ 0 → extra_of es ≡ 0 → next p es ≡ some (opening p es)
  pub adding : begun es ≡ 0 → extra_of es ≡ 0 → Waiting s
  pub stepping : begun es ≡ 1 → extra_of es ≡ 0 → Going s
  pub handing : extra_of es ≡ 1 → Holding s

-- A run that is over is in none of them.
phase_over : (p : Plan) (es : List Entry) (s : State) → extra_of es ≡ 2 → Phase p es s
phase_over p es s z = record { first = λ b x. absurd (omega arith); adding = λ b x. absurd (omega arith); stepping = λ b x. absurd (omega arith); handing = λ x. absurd (omega arith) }

phase_adding : (p : Plan) (es : List Entry) (s : State) → next p es ≡ some (opening p es) → begun es ≡ 0 → extra_of es ≡ 0 → Waiting s → Phase p es s
phase_adding p es s f b z i = record { first = λ _ _. f; adding = λ _ _. i; stepping = λ c x. absurd (omega arith); handing = λ x. absurd (omega arith) }

phase_stepping : (p : Plan) (es : List Entry) (s : State) → begun es ≡ 1 → extra_of es ≡ 0 → Going s → Phase p es s
phase_stepping p es s b z i = record { first = λ c x. absurd (omega arith); adding = λ c x. absurd (omega arith); stepping = λ _ _. i; handing = λ x. absurd (omega arith) }

phase_handing : (p : Plan) (es : List Entry) (s : State) → extra_of es ≡ 1 → Holding s → Phase p es s
phase_handing p es s z i = record { first = λ b x. absurd (omega arith); adding = λ b x. absurd (omega arith); stepping = λ b x. absurd (omega arith); handing = λ _. i }

pub phase_built : (p : Plan) (s : State) → Waiting s → Phase p [] s
unfolding begun extra_of next
phase_built p s i = phase_adding p [] s refl refl refl i

pub record Good (p : Plan) (y : History) : Type 0 where
  pub fit : Fit p y.entries
  pub phase : Phase p y.entries y.now

-- As long as the run is not over, the runtime is not poisoned.
pub still_healthy : (p : Plan) (y : History) → Good p y → extra_of y.entries ≤ 1 → y.now.poisoned ≡ false
still_healthy p y i x =
    by_bool (eqb (extra_of y.entries) 1)
    (λ t. (i.phase.handing (eqb-true (extra_of y.entries) 1 t)).healthy)
    (λ t. let n = eqb-false (extra_of y.entries) 1 t in let z : extra_of y.entries ≡ 0 = omega arith in
    by_bool (eqb (begun y.entries) 0)
    (λ u. (i.phase.adding (eqb-true (begun y.entries) 0 u) z).healthy)
    (λ u. let m = eqb-false (begun y.entries) 0 u in (i.phase.stepping (omega (arith, begun_most y.entries)) z).healthy))

-- The initial event that is next is one of the plan's.
pub more : (k : ℕ) (ms : List Message) (m : Message) (rest : List Message) → drop k ms ≡ m ∷ rest → k < length ms
more zero [] m rest e = let z : ◌≡◌ {A = ℕ} 0 1 = cc in absurd (omega arith)
more zero (x ∷ xs) m rest e = omega arith
more (suc k) [] m rest e = let z : ◌≡◌ {A = ℕ} 0 1 = cc in absurd (omega arith)
more (suc k) (x ∷ xs) m rest e = let h = more k xs m rest e in omega arith

unfoldable Goes : Plan → History → Call → Out → Type 0
Goes p y k o = Good p (append_call y k o)

module _ (p : Plan) (y : History) (i : Good p y) where
  -- A refusal ends the run: of an initial event, of another call that is no hand back, and of a hand back that did not commit.
  initial_refused : (m : Message) (r : Refusal) → begun y.entries ≡ 0 → extra_of y.entries ≡ 0 → Goes p y (AddInitial m) (refuse y.now y.counters r)
  unfolding Goes extra_of extra begun if◌then◌otherwise◌ is_initial is_begin is_hand_back refused is_committed is_advanced number
  initial_refused m r b z = record {
    fit = fit_quiet p (entry y.now (AddInitial m) (refuse y.now y.counters r)) y.entries i.fit (omega arith) (record { no_run = refl; no_event = refl; no_commit = refl; no_advance = refl }) (omega (arith, i.fit.once)) (omega arith);
    phase = phase_over p _ _ refl;
  }

  initial_accepted : (m : Message) (t : State) → begun y.entries ≡ 0 → extra_of y.entries ≡ 0 → initials y.entries < length p.initial → Waiting t → Goes p y (AddInitial m) (out Accepted t y.counters)
  unfolding Goes next after extra_of extra begun if◌then◌otherwise◌ is_initial is_begin is_hand_back refused is_committed is_advanced number
  initial_accepted m t b z l h = record {
    fit = fit_add p (entry y.now (AddInitial m) (out Accepted t y.counters)) y.entries i.fit (omega arith) refl refl refl refl l (omega (arith, i.fit.once)) z;
    phase = phase_adding p _ _ refl refl refl h;
  }

  begin_refused : (h b : ℕ) (r : Refusal) → extra_of y.entries ≡ 0 → Goes p y (Begin h b) (refuse y.now y.counters r)
  unfolding Goes extra_of extra begun if◌then◌otherwise◌ is_initial is_begin is_hand_back refused is_committed is_advanced number
  begin_refused h b r z = record {
    fit = fit_quiet p (entry y.now (Begin h b) (refuse y.now y.counters r)) y.entries i.fit (omega arith) (record { no_run = refl; no_event = refl; no_commit = refl; no_advance = refl }) (omega (arith, i.fit.once, begun_most y.entries)) (omega arith);
    phase = phase_over p _ _ refl;
  }

  begin_accepted : (b : ℕ) (t : State) → begun y.entries ≡ 0 → extra_of y.entries ≡ 0 → Going t → Goes p y (Begin p.horizon b) (out Accepted t y.counters)
  unfolding Goes extra_of extra begun if◌then◌otherwise◌ is_initial is_begin is_hand_back refused is_committed is_advanced number horizon
  begin_accepted b t o z h = record {
    fit = fit_begin p (entry y.now (Begin p.horizon b) (out Accepted t y.counters)) y.entries i.fit (omega arith) refl refl refl refl refl (omega (arith, i.fit.once)) refl z;
    phase = phase_stepping p _ _ refl refl h;
  }

  step_refused : (r : Refusal) (t : State) → extra_of y.entries ≡ 0 → Goes p y Step (out (Refused r) t y.counters)
  unfolding Goes extra_of extra begun if◌then◌otherwise◌ is_initial is_begin is_hand_back refused is_committed is_advanced number
  step_refused r t z = record {
    fit = fit_quiet p (entry y.now Step (out (Refused r) t y.counters)) y.entries i.fit (omega arith) (record { no_run = refl; no_event = refl; no_commit = refl; no_advance = refl }) (omega (arith, i.fit.once, begun_most y.entries)) (omega arith);
    phase = phase_over p _ _ refl;
  }

  step_finished : (g : ℕ) (t : State) → extra_of y.entries ≡ 0 → Goes p y Step (out (Finished g) t y.counters)
  unfolding Goes extra_of extra begun if◌then◌otherwise◌ is_initial is_begin is_hand_back refused is_committed is_advanced number
  step_finished g t z = record {
    fit = fit_quiet p (entry y.now Step (out (Finished g) t y.counters)) y.entries i.fit (omega arith) (record { no_run = refl; no_event = refl; no_commit = refl; no_advance = refl }) (omega (arith, i.fit.once, begun_most y.entries)) (omega arith);
    phase = phase_over p _ _ refl;
  }

  step_batch : (bs : List Event) (g : ℕ) (t : State) → extra_of y.entries ≡ 0 → Holding t → Goes p y Step (out (Batch bs g) t y.counters)
  unfolding Goes extra_of extra begun if◌then◌otherwise◌ is_initial is_begin is_hand_back refused is_committed is_advanced number
  step_batch bs g t z h = record {
    fit = fit_quiet p (entry y.now Step (out (Batch bs g) t y.counters)) y.entries i.fit (omega arith) (record { no_run = refl; no_event = refl; no_commit = refl; no_advance = refl }) (omega (arith, i.fit.once, begun_most y.entries)) (omega arith);
    phase = phase_handing p _ _ refl h;
  }

  step_rose : (g : ℕ) (t : State) (c : Counters) → extra_of y.entries ≡ 0 → Going t → Goes p y Step (out (Advanced g) t c)
  unfolding Goes extra_of extra begun if◌then◌otherwise◌ is_initial is_begin is_hand_back refused is_committed is_advanced number
  step_rose g t c z h = record {
    fit = fit_advance p (entry y.now Step (out (Advanced g) t c)) y.entries i.fit (omega arith) refl refl refl refl (omega (arith, i.fit.once, begun_most y.entries)) z;
    phase = phase_stepping p _ _ refl refl h;
  }

  back_refused : (xs : List Emission) (r : Refusal) (t : State) → eqb (refusal_number r) 24 ≡ false → extra_of y.entries ≡ 1 → Goes p y (HandBack 0 xs) (out (Refused r) t y.counters)
  unfolding Goes extra_of extra begun if◌then◌otherwise◌ is_initial is_begin is_hand_back refused is_committed is_advanced number
  back_refused xs r t a z = record {
    fit = fit_quiet p (entry y.now (HandBack 0 xs) (out (Refused r) t y.counters)) y.entries i.fit (omega arith) (record { no_run = refl; no_event = refl; no_commit = a; no_advance = refl }) (omega (arith, i.fit.once, begun_most y.entries)) (omega arith);
    phase = phase_over p _ _ refl;
  }

  back_done : (xs : List Emission) (a : Answer) (t : State) (c : Counters) → commits (entry y.now (HandBack 0 xs) (out a t c)) ≡ true → is_advanced a ≡ false → extra a ≤ 2 → Phase p (entry y.now (HandBack 0 xs) (out a t c) ∷ y.entries) t → xs ≡ due (left p y.entries) (in_hand y.entries) → extra_of y.entries ≡ 1 → Goes p y (HandBack 0 xs) (out a t c)
  unfolding Goes extra_of begun if◌then◌otherwise◌ is_initial is_begin emissions
  back_done xs a t c k v n h d z = record {
    fit = fit_commit p (entry y.now (HandBack 0 xs) (out a t c)) y.entries i.fit n k v refl refl (omega (arith, i.fit.once, begun_most y.entries)) d z;
    phase = h;
  }

  -- The calls.
  goes_initial : (m : Message) → begun y.entries ≡ 0 → extra_of y.entries ≡ 0 → initials y.entries < length p.initial → Goes p y (AddInitial m) (rule y.now y.counters (AddInitial m))
  unfolding rule
  goes_initial m b z l = by_initial y.now y.counters m (Goes p y (AddInitial m)) (record {
    foreign = λ _. initial_refused m _ b z;
    refused = λ r _. initial_refused m r b z;
    accept = λ k. let w = i.phase.adding b z in initial_accepted m _ b z l (record { opened = w.opened; idle = w.idle; first_run = w.first_run; empty = w.empty; healthy = w.healthy });
  })

  goes_begin : begun y.entries ≡ 0 → extra_of y.entries ≡ 0 → Goes p y (Begin p.horizon p.budget) (rule y.now y.counters (Begin p.horizon p.budget))
  unfolding rule
  goes_begin o z = by_begin y.now y.counters p.horizon p.budget (Goes p y (Begin p.horizon p.budget)) (record {
    foreign = λ _. begin_refused _ _ _ z;
    refused = λ r _. begin_refused _ _ r z;
    accept = λ k. let w = i.phase.adding o z in begin_accepted _ _ o z (record { open_run = refl; empty = w.empty; healthy = w.healthy });
  })

  goes_step : extra_of y.entries ≡ 0 → Goes p y Step (rule y.now y.counters Step)
  unfolding rule refreshed
  goes_step z = by_step y.now y.counters (Goes p y Step) (record {
    foreign = λ _. step_refused _ _ z;
    refused = λ r _. step_refused r _ z;
    batch = λ h b k t. step_batch _ _ _ z (record { open_run = k.open_run; some_batch = t; healthy = k.healthy });
    spends = λ h b k. step_refused _ _ z;
    rise = λ h b k _. step_rose _ _ _ z (record { open_run = k.steps.open_run; empty = k.steps.empty; healthy = k.steps.healthy });
    finish = λ h b k _ _. step_finished _ _ z;
    last_branch = λ h b k _ _. step_refused _ _ z;
  })

  goes_back : (xs : List Emission) → xs ≡ due (left p y.entries) (in_hand y.entries) → extra_of y.entries ≡ 1 → Goes p y (HandBack 0 xs) (rule y.now y.counters (HandBack 0 xs))
  unfolding rule refreshed refusal_number is_hand_back is_committed is_advanced number extra extra_of begun if◌then◌otherwise◌ is_initial
  goes_back xs d z = by_back y.now y.counters 0 xs (Goes p y (HandBack 0 xs)) (record {
    foreign = λ _. back_refused xs _ _ refl z;
    poisoned = λ _. back_refused xs _ _ refl z;
    empty = λ _. back_refused xs _ _ refl z;
    malformed = back_refused xs _ _ refl z;
    lost = λ _ r l. back_refused xs r _ l.not_24 z;
    no_horizon = λ _ _. back_refused xs _ _ refl z;
    spends = λ h b k. back_done xs _ _ _ refl refl (omega arith) (phase_over p _ _ refl) d z;
    commits = λ h b k. back_done xs _ _ _ refl refl (omega arith) (phase_stepping p _ _ refl refl (record { open_run = (i.phase.handing z).open_run; empty = refl; healthy = k.reply.healthy })) d z;
  })

  goes_opening : begun y.entries ≡ 0 → extra_of y.entries ≡ 0 → Good p (carried y (some (opening p y.entries)))
  unfolding opening or_begin carried Goes
  goes_opening b z = go (drop (initials y.entries) p.initial) refl
    where
      go : (ms : List Message) → drop (initials y.entries) p.initial ≡ ms → Good p (carried y (some (or_begin p ms)))
      go [] e = goes_begin b z
      go (m ∷ ms) e = goes_initial m b z (more _ p.initial m ms e)

abbrev history_of : List Entry → State → Counters → History
history_of es s c = record { entries = es; now = s; counters = c }

begun_not : (k : Call) (a : Answer) (r : ℕ) (es : List Entry) → is_initial k ≡ true → begun (entry_of k a r ∷ es) ≡ 0
unfolding begun if◌then◌otherwise◌
begun_not k a r es e = rw e

module _ (p : Plan) where
  -- By the last answer.
  goes_after : (k : Call) (a : Answer) (r : ℕ) (es : List Entry) (s : State) (c : Counters) → let y = history_of (entry_of k a r ∷ es) s c in Good p y → Good p (carried y (after p (entry_of k a r ∷ es) k a))
  unfolding after carried Goes extra_of extra if◌then◌otherwise◌
  goes_after k Accepted r es s c i = go (is_initial k) refl
    where
      go : (t : Bool) → is_initial k ≡ t → let y = history_of (entry_of k Accepted r ∷ es) s c in Good p (carried y (some (if t then opening p y.entries otherwise Step)))
      go true e = goes_opening p (history_of (entry_of k Accepted r ∷ es) s c) i (begun_not k Accepted r es e) refl
      go false e = goes_step p (history_of (entry_of k Accepted r ∷ es) s c) i refl
  goes_after k (Batch bs g) r es s c i = goes_back p (history_of (entry_of k (Batch bs g) r ∷ es) s c) i _ (ap (due (left p (entry_of k (Batch bs g) r ∷ es))) (sym (hand_batch k bs g r es))) refl
  goes_after k (Advanced g) r es s c i = goes_step p (history_of (entry_of k (Advanced g) r ∷ es) s c) i refl
  goes_after k (Finished g) r es s c i = i
  goes_after k (Committed g) r es s c i = goes_step p (history_of (entry_of k (Committed g) r ∷ es) s c) i refl
  goes_after k (Read x) r es s c i = i
  goes_after k (Planned j) r es s c i = i
  goes_after k (Refused x) r es s c i = i

  goes_from : (es : List Entry) (s : State) (c : Counters) → Good p (history_of es s c) → Good p (move p (history_of es s c))
  unfolding move next begun extra_of
  goes_from [] s c i = goes_opening p (history_of [] s c) i refl refl
  goes_from (e ∷ es) s c i = goes_after e.call e.answer e.raises es s c i

  pub goes : (y : History) → Good p y → Good p (move p y)
  goes y i = goes_from y.entries y.now y.counters i
