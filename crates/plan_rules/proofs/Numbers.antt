-- Which numbers a run can end by.
use mathlib.Core.Path.{◌≡◌, refl, sym, ap, subst, ◌∙◌}
use mathlib.Core.Bool.{true, false}
use mathlib.Core.List.{List, [], ◌∷◌}
use Prim.Native.Nat.{ℕ, zero, suc, ◌+◌, ◌≤◌, ◌<◌}
use native.Mathlib.Omega.{arith}
use native.Mathlib.Nat.{zero-div}
use lib.Dec.{ltb, eqb}
use lib.ListN.{length, drop}
use borrow.Author.Tests.{ltb-true, ne_eqb, le-ltb}
use Rattle.rules.specs.Base.{Maybe, none, some, any, member, non_empty, count}
use Rattle.rules.specs.State.{Message, Event, Stored, unset, stored, State, Counters, max_count}
use Rattle.rules.specs.Answers.{Accepted, refusal_number, number}
use Rattle.rules.specs.Rows.{Row, Out}
use Rattle.rules.specs.Build.{build, built}
use Rattle.rules.specs.Foreign.{is_unset}
use Rattle.rules.specs.Initial.{initial_rows, add_initial}
use Rattle.rules.specs.Begin.{previous, begin_rows, begin}
use Rattle.rules.specs.Refresh.{refreshed}
use Rattle.rules.specs.Step.{advance, step_run, step}
use Rattle.rules.specs.HandBack.{Emission, failed, emission_rows, process_rows, poison_rows, poison_with, hand_back_rows, commit_at, commit, hand_back}
use Rattle.rules.specs.Calls.{Call, AddInitial, Begin, Step, HandBack, rule}
use Rattle.rules.specs.History.{Entry, History, entry, append_call, empty_history, is_initial, is_hand_back, emissions, refused, is_committed, initials, in_hand, emitted, adds, commits}
use Rattle.rules.specs.Demand.{Never}
use Rattle.rules.proofs.Tests.{by_test, not_both, not_of_true, and_other, or_else}
use Rattle.rules.proofs.Lists.{All}
use Rattle.rules.proofs.Table.{by_firsts, firsts_all, firsts_append, Firsts}
use Rattle.rules.proofs.Cases.{Steps, by_initial, by_begin, by_step, by_back}
use Rattle.rules.proofs.Counts.{unhandled, handles, no_initial, one_initial}
use Rattle.rules.proofs.Outcomes.{step_runs}
use Rattle.rules.proofs.LastBranch.{never_last_branch}
use Rattle.rules.proofs.Demand.{Sound, sound_built, demanded}
use Rattle.plan_file.specs.Plan.{Plan}
use Rattle.plan_file.specs.Events.{event_count}
use Rattle.plan_rules.specs.Setup.{setup_of}
use Rattle.plan_rules.specs.Host.{due, left, or_begin, opening, next}
use Rattle.plan_rules.specs.Run.{carried, move, run, enough, ran}
use Rattle.plan_rules.specs.Listing.{last_number}
use Rattle.plan_rules.specs.Laws.{Ready}
use Rattle.plan_rules.specs.Numbers.{end_numbers, EndNumbers}
use Rattle.plan_rules.proofs.Replies.{size_spend}
use Rattle.plan_rules.proofs.Moves.{Good, more}
use Rattle.plan_rules.proofs.Ends.{good_run, sound_run}
use Rattle.plan_rules.proofs.Ready.{kind_of, ready}
use Rattle.plan_rules.proofs.Kth.{backed}

-- The next sequence number counts the events accepted.
abbrev Sequenced : History → Type 0
Sequenced y = y.now.next ≡ initials y.entries + emitted y.entries

unfoldable Counts : History → Call → Out → Type 0
Counts y k o = Sequenced (append_call y k o)

module _ (y : History) (i : Sequenced y) where
  counts_same : (k : Call) (o : Out) → adds (entry y.now k o) ≡ false → commits (entry y.now k o) ≡ false → o.after.next ≡ y.now.next → Counts y k o
  unfolding Counts
  counts_same k o a c n = omega (arith, no_initial (entry y.now k o) y.entries a, (unhandled (entry y.now k o) y.entries c).emitted)

  counts_add : (k : Call) (o : Out) → adds (entry y.now k o) ≡ true → commits (entry y.now k o) ≡ false → o.after.next ≡ y.now.next + 1 → Counts y k o
  unfolding Counts
  counts_add k o a c n = omega (arith, one_initial (entry y.now k o) y.entries a, (unhandled (entry y.now k o) y.entries c).emitted)

  counts_commit : (k : Call) (o : Out) → adds (entry y.now k o) ≡ false → commits (entry y.now k o) ≡ true → o.after.next ≡ y.now.next + length (emissions k) → Counts y k o
  unfolding Counts
  counts_commit k o a c n = omega (arith, no_initial (entry y.now k o) y.entries a, (handles (entry y.now k o) y.entries c).emitted)

  counts_call : (k : Call) → Counts y k (rule y.now y.counters k)
  unfolding rule is_initial is_hand_back is_committed refused number refusal_number emissions refreshed
  counts_call (AddInitial m) = by_initial y.now y.counters m (Counts y (AddInitial m)) (record {
    foreign = λ _. counts_same _ _ refl refl refl;
    refused = λ r _. counts_same _ _ refl refl refl;
    accept = λ _. counts_add _ _ refl refl (omega arith);
  })
  counts_call (Begin h b) = by_begin y.now y.counters h b (Counts y (Begin h b)) (record {
    foreign = λ _. counts_same _ _ refl refl refl;
    refused = λ r _. counts_same _ _ refl refl refl;
    accept = λ _. counts_same _ _ refl refl refl;
  })
  counts_call Step = by_step y.now y.counters (Counts y Step) (record {
    foreign = λ _. counts_same _ _ refl refl refl;
    refused = λ r _. counts_same _ _ refl refl refl;
    batch = λ h b _ _. counts_same _ _ refl refl refl;
    spends = λ h b _. counts_same _ _ refl refl refl;
    rise = λ h b _ _. counts_same _ _ refl refl refl;
    finish = λ h b _ _ _. counts_same _ _ refl refl refl;
    last_branch = λ h b _ _ _. counts_same _ _ refl refl refl;
  })
  counts_call (HandBack mask xs) = by_back y.now y.counters mask xs (Counts y (HandBack mask xs)) (record {
    foreign = λ _. counts_same _ _ refl refl refl;
    poisoned = λ _. counts_same _ _ refl refl refl;
    empty = λ _. counts_same _ _ refl refl refl;
    malformed = counts_same _ _ refl refl refl;
    lost = λ _ r l. counts_same _ _ refl l.not_24 refl;
    no_horizon = λ _ _. counts_same _ _ refl refl refl;
    spends = λ h b _. counts_commit _ _ refl refl refl;
    commits = λ h b _. counts_commit _ _ refl refl refl;
  })

sequenced_carried : (y : History) (m : Maybe Call) → Sequenced y → Sequenced (carried y m)
unfolding carried Counts
sequenced_carried y none i = i
sequenced_carried y (some k) i = counts_call y i k

sequenced_run : (p : Plan) (k : ℕ) → Sequenced (run p k)
unfolding run move built initials emitted count
sequenced_run p zero = refl
sequenced_run p (suc k) = sequenced_carried (run p k) (next p (run p k).entries) (sequenced_run p k)

-- 33 is left to demand 3.
unfoldable Allowed : Out → Type 0
Allowed o = member (number o.answer) (33 ∷ end_numbers) ≡ true

-- No process failed.
none_failed : (q : ℕ) → failed 0 q ≡ false
unfolding failed
none_failed q = rw zero-div

module _ (s : State) (c : Counters) (xs : List Emission) where
  allowed_emissions : (e : Event) (ys : List Emission) → All (λ (r : Row). Allowed (poison_with s c r.refusal)) (emission_rows s e ys)
  unfolding emission_rows Allowed member any number refusal_number
  allowed_emissions e [] = tt
  allowed_emissions e (x ∷ ys) =
      by_test (All (λ (r : Row). Allowed (poison_with s c r.refusal)))
      (λ _. (refl, (refl, (refl, (refl, (refl, (refl, allowed_emissions e ys)))))))
      (λ _. allowed_emissions e ys)

  allowed_processes : (bs : List Event) → Firsts (λ r. Allowed (poison_with s c r)) (process_rows s 0 xs bs)
  unfolding process_rows
  allowed_processes [] = tt
  allowed_processes (e ∷ bs) = (
    (λ t. not_both t (none_failed e.destination)),
    λ _. firsts_append (λ r. Allowed (poison_with s c r)) (emission_rows s e xs) (process_rows s 0 xs bs) (firsts_all (λ r. Allowed (poison_with s c r)) (emission_rows s e xs) (allowed_emissions e xs)) (λ _. allowed_processes bs),
  )

too_many : {C : Type 0} (k : ℕ) → ltb max_count k ≡ true → k ≤ max_count → C
too_many k t h = let f = ltb-true max_count k t in absurd (omega arith)

-- The host's calls.
module _ (p : Plan) (y : History) (s : Sound (setup_of p) y) (g : Good p y) (i : Sequenced y) (few : event_count p ≤ max_count) where
  -- An initial event that is next is one of the plan's.
  some_left : (ms : List Message) (m : Message) → drop (initials y.entries) p.initial ≡ ms → some (or_begin p ms) ≡ some (AddInitial m) → initials y.entries < length p.initial
  unfolding or_begin
  some_left [] m d e = let z : ◌≡◌ {A = ℕ} 0 1 = cc in absurd (omega arith)
  some_left (x ∷ xs) m d e = more (initials y.entries) p.initial x xs d

  initial_left : (m : Message) → next p y.entries ≡ some (AddInitial m) → initials y.entries < length p.initial
  unfolding opening
  initial_left m e = let k = kind_of p y.entries (AddInitial m) e in some_left _ m refl (sym (g.phase.first k.0 k.1) ∙ e)

  allowed_initial : (m : Message) → next p y.entries ≡ some (AddInitial m) → Allowed (add_initial y.now y.counters m)
  unfolding add_initial Allowed member any number refusal_number event_count
  allowed_initial m e =
      let r = ready p y s g in
      by_firsts Allowed (initial_rows y.now m) _ _ (
        (λ t. not_both t r.passes),
        λ _. (
          (λ t. not_both t (r.healthy (AddInitial m) e)),
          λ _. (
            (λ t. not_both t (not_of_true y.now.initial (r.adding m e))),
            λ _. (
              (λ _. refl),
              λ _. (
                (λ _. refl),
                λ _. ((λ _. refl), λ _. ((λ _. refl), λ _. ((λ _. refl), λ _. ((λ t. too_many (y.now.next + 1) t (omega (arith, initial_left m e, g.fit.replies))), λ _. tt)))),
              ),
            ),
          ),
        ),
      )
      (λ _. refl)

  not_below_0 : (h : ℕ) (l : Stored) → l ≡ unset → ltb h (previous l) ≡ false
  unfolding previous
  not_below_0 h l e = rw e (le-ltb h 0 (omega arith))

  allowed_begin : (h b : ℕ) → next p y.entries ≡ some (Begin h b) → Allowed (begin y.now y.counters h b)
  unfolding begin Allowed member any number refusal_number
  allowed_begin h b e =
      let r = ready p y s g in
      let k = r.beginning h b e in
      by_firsts Allowed (begin_rows y.now h) _ _ (
        (λ t. not_both t r.passes),
        λ _. (
          (λ t. not_both t (r.healthy (Begin h b) e)),
          λ _. ((λ t. not_both t k.0), λ _. ((λ t. not_both t (not_below_0 h y.now.stored k.1)), λ _. ((λ _. refl), λ _. tt))),
        ),
      )
      (λ _. refl)

  -- An open run has a horizon.
  has_horizon : {C : Type 0} → y.now.running ≡ true → y.now.stored ≡ unset → C
  unfolding is_unset
  has_horizon o e = not_both (ap is_unset e) (and_other y.now.running (is_unset y.now.stored) o s.shaped.runs.stored)

  allowed_steps : (h b : ℕ) → Steps y.now h b → Allowed (step_run y.now y.counters h b)
  unfolding step_run advance Allowed member any number refusal_number
  allowed_steps h b k =
      by_test Allowed (λ _. refl) (λ t. by_test Allowed (λ _. refl) (λ u. by_test Allowed (λ _. refl) (λ v.
      by_test Allowed (λ _. refl)
      (λ w. not_both (never_last_branch y.now h b s.shaped (record { steps = k; none_taken = t; not_spent = u }) v) w))))

  allowed_step : next p y.entries ≡ some Step → Allowed (step y.now y.counters)
  allowed_step e = go y.now.stored refl
    where
      r : Ready p y
      r = ready p y s g

      go : (l : Stored) → y.now.stored ≡ l → Allowed (step y.now y.counters)
      go unset h = has_horizon (r.stepping e).0 h
      go (stored h b) l = let k : Steps y.now h b = record { passes = r.passes; healthy = r.healthy Step e; open_run = (r.stepping e).0; empty = (r.stepping e).1; stored = l } in subst Allowed (sym (step_runs y.now y.counters h b k)) (allowed_steps h b k)

  allowed_commit : (xs : List Emission) (l : Stored) → y.now.stored ≡ l → y.now.running ≡ true → Allowed (commit_at y.now y.counters l xs)
  unfolding commit_at commit Allowed member any number refusal_number
  allowed_commit xs unset e o = has_horizon o e
  allowed_commit xs (stored h b) e o = by_test Allowed (λ _. refl) (λ _. refl)

  -- 26, 18 and those of the processes; 19 would want more emissions than the plan has.
  within : (xs : List Emission) → xs ≡ due (left p y.entries) (in_hand y.entries) → y.now.next + length xs ≤ max_count
  unfolding event_count
  within xs e = omega (arith, ap length e, size_spend (left p y.entries) (in_hand y.entries), g.fit.replies, g.fit.few)

  allowed_poison : (xs : List Emission) → xs ≡ due (left p y.entries) (in_hand y.entries) → Firsts (λ r. Allowed (poison_with y.now y.counters r)) (poison_rows y.now 0 xs)
  unfolding Allowed member any number refusal_number
  allowed_poison xs e =
      firsts_append (λ r. Allowed (poison_with y.now y.counters r)) (process_rows y.now 0 xs y.now.batch) _ (allowed_processes y.now y.counters xs y.now.batch)
      (λ _. ((λ t. too_many _ t (within xs e)), λ _. ((λ _. refl), λ _. tt)))

  allowed_back : (xs : List Emission) → next p y.entries ≡ some (HandBack 0 xs) → Allowed (hand_back y.now y.counters 0 xs)
  unfolding hand_back
  allowed_back xs e =
      let r = ready p y s g in
      by_firsts Allowed (hand_back_rows y.now 0 xs) _ _ (
        (λ t. not_both t r.passes),
        λ _. ((λ t. not_both t (r.healthy (HandBack 0 xs) e)), λ _. ((λ t. not_both t (not_of_true (non_empty y.now.batch) (r.handing 0 xs e).1)), λ _. ((λ _. unfold Allowed member any number refusal_number in refl), λ _. tt))),
      )
      (λ _. by_firsts Allowed (poison_rows y.now 0 xs) _ _ (allowed_poison xs (backed p y.entries 0 xs e).reply) (λ _. allowed_commit xs y.now.stored refl (r.handing 0 xs e).0))

  allowed_call : (k : Call) → next p y.entries ≡ some k → Allowed (rule y.now y.counters k)
  unfolding rule
  allowed_call (AddInitial m) e = allowed_initial m e
  allowed_call (Begin h b) e = allowed_begin h b e
  allowed_call Step e = allowed_step e
  allowed_call (HandBack mask xs) e =
      let z : mask ≡ 0 = (backed p y.entries mask xs e).mask in
      subst (λ (k : ℕ). Allowed (hand_back y.now y.counters k xs)) (sym z) (allowed_back xs (e ∙ ap (λ (k : ℕ). some (HandBack k xs)) z))

-- Along the run.
module _ (p : Plan) (i : Sound (setup_of p) (empty_history (setup_of p))) (few : event_count p ≤ max_count) where
  allowed_run : (k : ℕ) → member (last_number (run p k).entries) (33 ∷ end_numbers) ≡ true
  unfolding run move carried last_number
  allowed_run zero = unfold member any in refl
  allowed_run (suc k) = go (next p (run p k).entries) refl (allowed_run k)
    where
      go : (m : Maybe Call) → next p (run p k).entries ≡ m → member (last_number (run p k).entries) (33 ∷ end_numbers) ≡ true → member (last_number (carried (run p k) m).entries) (33 ∷ end_numbers) ≡ true
      go none e h = h
      go (some c) e h = unfold Allowed in (allowed_call p (run p k) (sound_run p i k) (good_run p k) (sequenced_run p k) few c e)

  not_33 : (es : List Entry) → Never 33 es → last_number es ≡ 33 → ⊥
  unfolding last_number
  not_33 [] n e = let z : ◌≡◌ {A = ℕ} 0 33 = e in omega arith
  not_33 (x ∷ es) n e = n.0 e

  other : (k : ℕ) → (k ≡ 33 → ⊥) → member k (33 ∷ end_numbers) ≡ true → member k end_numbers ≡ true
  unfolding member any
  other k n h = or_else (eqb k 33) _ (ne_eqb k 33 n) h

  among_run : (k : ℕ) → member (last_number (run p k).entries) end_numbers ≡ true
  among_run k = other (last_number (run p k).entries) (not_33 (run p k).entries (demanded (setup_of p) (run p k) (sound_run p i k)).no_straggler) (allowed_run k)

pub end_numbers_holds : (p : Plan) (c : Counters) → (build (setup_of p) c).answer ≡ Accepted → EndNumbers p
unfolding ran
end_numbers_holds p c b = record { among = λ few. among_run p (sound_built (setup_of p) c b) few (enough p) }
