-- Every call keeps the pace.
use mathlib.Core.Path.{◌≡◌, refl, sym, ap, subst, ◌∙◌}
use mathlib.Core.Bool.{true, false}
use mathlib.Core.List.{List}
use Prim.Native.Nat.{ℕ, suc, ◌+◌, ◌≤◌, ◌<◌, min, max}
use native.Mathlib.Omega.{arith}
use lib.Dec.{leb, ltb, eqb}
use lib.ListN.{length}
use borrow.Author.Tests.{ltb-true, ltb-false, leb-true, leb-false, le-ltb}
use Rattle.rules.specs.Base.{every, non_empty}
use Rattle.rules.specs.State.{Message, Stored, unset, stored, State, Counters, with_run}
use Rattle.rules.specs.Answers
use Rattle.rules.specs.Answers.{Refusal, refusal_number, Answer, Accepted, Advanced, Committed, Refused, number}
use Rattle.rules.specs.Rows.{Out, out}
use Rattle.rules.specs.Begin.{previous}
use Rattle.rules.specs.Refresh.{raised, refresh_to, refreshed}
use Rattle.rules.specs.Step.{input_frontier, count_raised, any_raised, new_edges, new_horizons, null_messages_of, any_advanced, advanced}
use Rattle.rules.specs.HandBack.{Emission, handled}
use Rattle.rules.specs.Calls.{Call, AddInitial, Begin, Step, HandBack, rule}
use Rattle.rules.specs.History.{Entry, History, entry, append_call, is_begin, is_hand_back, horizon, refused, is_committed, is_advanced, in_hand}
use Rattle.rules.proofs.Tests.{by_bool, not_both, or_else}
use Rattle.rules.proofs.Lists.{some_long}
use Rattle.rules.proofs.Cases.{by_initial, BeginPassed, by_begin, Advances, by_step, by_back}
use Rattle.rules.proofs.Shape.{Shaped, passes_11}
use Rattle.rules.proofs.Fronts.{frontier_low, frontier_le, low_raised, low_grows, count_le, count_none, length_edges, looks_raised, all_stay, none_raised}
use Rattle.rules.proofs.LastBranch.{horizons_high}
use Rattle.rules.proofs.Pace.{Counts, counts_of, end_of, front, Pace, Paced}
use Rattle.rules.proofs.PaceMoves.{begun, moved, Kind, counts_quiet, counts_begun, counts_moved, counts_returned, pace_stay, pace_begun, pace_sent, pace_lift, pace_returned}

-- An advance
module _ (s : State) (h b : ℕ) (w : Shaped s) (a : Advances s h b) (k : Counts) (L : ℕ) (i : Pace k L s.edges s.horizons s.stored) where
  end_is : k.end ≡ suc h
  unfolding end_of
  end_is = i.end ∙ ap end_of a.steps.stored

  -- The fronts after it, whatever rose.
  shifted : (to : ℕ → ℕ) → Pace k L (new_edges s (suc h)) (raised to 0 (new_horizons s (suc h))) s.stored
  shifted to =
      pace_stay k L s.edges (new_edges s (suc h)) s.horizons (raised to 0 (new_horizons s (suc h))) s.stored i (length_edges s (suc h) s.edges) (low_grows s (suc h) s.edges (max k.end L))
      (λ u. all_stay to k.end 0 (new_horizons s (suc h)) (all_stay (input_frontier s (suc h)) k.end 0 s.horizons u))
      (looks_raised s (suc h) L s.edges i.looks)

  -- Everybody's input frontier is at the front or beyond.
  low : (p : ℕ) → p < s.n → min (suc h) (front k.end L s.edges) ≤ input_frontier s (suc h) p
  low = frontier_low s h b (max k.end L) a

  -- A bound rose: the front was below the end, and rose.
  front_low : 0 < null_messages_of s (suc h) → front k.end L s.edges < k.end
  front_low r =
      by_bool (leb k.end (front k.end L s.edges))
      (λ d. let l : k.end ≤ front k.end L s.edges = leb-true _ _ d in absurd (omega (arith, count_none s (suc h) (max k.end L) s.edges (omega (arith, end_is)))))
      (λ d. leb-false _ _ d)

  front_far : min k.end (front k.end L s.edges + L) ≤ front k.end L (new_edges s (suc h))
  front_far = omega (arith, end_is, low_raised s (suc h) (min (suc h) (front k.end L s.edges)) L low s.edges (max k.end L) w.wired.joined i.looks)

  -- No bound rose but something did: not every local horizon was at the end, and now each is.
  horizons_low : null_messages_of s (suc h) ≡ 0 → any_advanced s (suc h) ≡ true → every (leb k.end) s.horizons ≡ false
  unfolding any_advanced
  horizons_low z t =
      by_bool (every (leb k.end) s.horizons)
      (λ d. not_both (or_else (ltb 0 (null_messages_of s (suc h))) (any_raised s.horizons (new_horizons s (suc h))) (le-ltb 0 (null_messages_of s (suc h)) (omega arith)) t) (none_raised (input_frontier s (suc h)) k.end 0 s.horizons (λ p. omega (arith, frontier_le s (suc h) p, end_is)) d))
      (λ d. d)

  pub pace_rose : (to : ℕ → ℕ) → any_advanced s (suc h) ≡ true → Pace (moved k (null_messages_of s (suc h))) L (new_edges s (suc h)) (raised to 0 (new_horizons s (suc h))) s.stored
  pace_rose to t =
      by_bool (ltb 0 (null_messages_of s (suc h)))
      (λ e. let r : 0 < null_messages_of s (suc h) = ltb-true _ _ e in
      pace_sent k L (null_messages_of s (suc h)) s.edges (new_edges s (suc h)) (raised to 0 (new_horizons s (suc h))) s.stored
      (i.sending (front_low r)) r (count_le s (suc h) s.edges) (length_edges s (suc h) s.edges) (low_grows s (suc h) s.edges (max k.end L)) front_far (shifted to))
      (λ e. let z : null_messages_of s (suc h) ≡ 0 = omega (arith, ltb-false 0 (null_messages_of s (suc h)) e) in
      rw z (pace_lift k L (new_edges s (suc h)) (raised to 0 (new_horizons s (suc h))) s.stored (i.lifting (horizons_low z t)) (rw end_is (horizons_high s h b w a to z)) (shifted to)))

-- What a call that came out as o is to show.
unfoldable pub Going : ℕ → History → Call → Out → Type 0
Going L y k o = Paced L (append_call y k o)

-- The pace of a state with the counts of a list of calls.
unfoldable At : ℕ → List Entry → State → Type 0
At L es s = Pace (counts_of es) L s.edges s.horizons s.stored

-- By the kind of the call: the pace that is left to show.
module _ (L : ℕ) (y : History) (k : Call) (r : Answer) (s : State) (c : Counters) where
  going_quiet : Kind (entry y.now k (out r s c)) false false false → At L y.entries s → Going L y k (out r s c)
  unfolding Going Paced At
  going_quiet x i = subst (λ (n : Counts). Pace n L s.edges s.horizons s.stored) (sym (counts_quiet (entry y.now k (out r s c)) y.entries x)) i

  going_begun : Kind (entry y.now k (out r s c)) true false false → Pace (begun (counts_of y.entries) (horizon k)) L s.edges s.horizons s.stored → Going L y k (out r s c)
  unfolding Going Paced
  going_begun x i = subst (λ (n : Counts). Pace n L s.edges s.horizons s.stored) (sym (counts_begun (entry y.now k (out r s c)) y.entries x)) i

  going_moved : Kind (entry y.now k (out r s c)) false true false → Pace (moved (counts_of y.entries) (count_raised y.now.edges s.edges)) L s.edges s.horizons s.stored → Going L y k (out r s c)
  unfolding Going Paced
  going_moved x i = subst (λ (n : Counts). Pace n L s.edges s.horizons s.stored) (sym (counts_moved (entry y.now k (out r s c)) y.entries x)) i

  going_returned : Kind (entry y.now k (out r s c)) false false true → 0 < length (in_hand y.entries) → At L y.entries s → Going L y k (out r s c)
  unfolding Going Paced At
  going_returned x p i =
      subst (λ (n : Counts). Pace n L s.edges s.horizons s.stored) (sym (counts_returned (entry y.now k (out r s c)) y.entries x))
      (pace_returned (counts_of y.entries) L (length (in_hand y.entries)) s.edges s.horizons s.stored p i)

-- Add initial
module _ (L : ℕ) (y : History) (m : Message) (w : Shaped y.now) (i : Paced L y) where
  initial_quiet : (r : Answer) (s : State) → is_advanced r ≡ false → At L y.entries s → Going L y (AddInitial m) (out r s y.counters)
  unfolding is_begin is_hand_back
  initial_quiet r s e j = going_quiet L y (AddInitial m) r s y.counters (record { begins = refl; advanced = e; commits = refl }) j

  going_initial : Going L y (AddInitial m) (rule y.now y.counters (AddInitial m))
  unfolding rule Paced At is_advanced
  going_initial = by_initial y.now y.counters m (Going L y (AddInitial m)) (record {
    foreign = λ e. not_both e (passes_11 y.now w);
    refused = λ r _. initial_quiet (Refused r) y.now refl i;
    accept = λ _. initial_quiet Accepted _ refl i;
  })

-- Begin
end_previous : (l : Stored) → end_of l ≤ suc (previous l)
unfolding end_of previous
end_previous unset = omega arith
end_previous (stored h b) = omega arith

module _ (L : ℕ) (y : History) (h b : ℕ) (w : Shaped y.now) (i : Paced L y) where
  begin_refused : (r : Refusal) → Going L y (Begin h b) (out (Refused r) y.now y.counters)
  unfolding Paced At is_begin is_hand_back refused is_committed is_advanced
  begin_refused r = going_quiet L y (Begin h b) (Refused r) y.now y.counters (record { begins = refl; advanced = refl; commits = refl }) i

  begin_accepted : BeginPassed y.now h → Going L y (Begin h b) (out Accepted (with_run y.now h b) y.counters)
  unfolding Paced is_begin is_hand_back refused is_committed is_advanced horizon
  begin_accepted p =
      going_begun L y (Begin h b) Accepted (with_run y.now h b) y.counters (record { begins = refl; advanced = refl; commits = refl })
      (pace_begun (counts_of y.entries) L h b y.now.edges y.now.horizons y.now.stored i (omega (arith, i.end, end_previous y.now.stored, p.later)))

  going_begin : Going L y (Begin h b) (rule y.now y.counters (Begin h b))
  unfolding rule
  going_begin = by_begin y.now y.counters h b (Going L y (Begin h b)) (record {
    foreign = λ e. not_both e (passes_11 y.now w);
    refused = λ r _. begin_refused r;
    accept = begin_accepted;
  })

-- Step
module _ (L : ℕ) (y : History) (w : Shaped y.now) (i : Paced L y) where
  step_quiet : (r : Answer) (s : State) → is_advanced r ≡ false → At L y.entries s → Going L y Step (out r s y.counters)
  unfolding is_begin is_hand_back
  step_quiet r s e j = going_quiet L y Step r s y.counters (record { begins = refl; advanced = e; commits = refl }) j

  step_rise : (h b : ℕ) → Advances y.now h b → any_advanced y.now (suc h) ≡ true → (c : Counters) → Going L y Step (out (Advanced (advanced y.now h).gvt) (advanced y.now h) c)
  unfolding Paced is_begin is_hand_back is_advanced refreshed
  step_rise h b a t c =
      going_moved L y Step (Advanced (advanced y.now h).gvt) (advanced y.now h) c (record { begins = refl; advanced = refl; commits = refl })
      (pace_rose y.now h b w a (counts_of y.entries) L i (refresh_to y.now.inbound (suc h) y.now.pending) t)

  step_still : (h b : ℕ) → Advances y.now h b → At L y.entries (advanced y.now h)
  unfolding Paced At refreshed
  step_still h b a = shifted y.now h b w a (counts_of y.entries) L i (refresh_to y.now.inbound (suc h) y.now.pending)

  going_step : Going L y Step (rule y.now y.counters Step)
  unfolding rule Paced At is_advanced
  going_step = by_step y.now y.counters (Going L y Step) (record {
    foreign = λ e. not_both e (passes_11 y.now w);
    refused = λ r _. step_quiet (Refused r) y.now refl i;
    batch = λ h b _ _. step_quiet _ _ refl i;
    spends = λ h b _. step_quiet _ _ refl i;
    rise = λ h b a t. step_rise h b a t _;
    finish = λ h b a _ _. step_quiet _ _ refl (step_still h b a);
    last_branch = λ h b a _ _. step_quiet _ _ refl (step_still h b a);
  })

-- Hand back
module _ (L : ℕ) (y : History) (mask : ℕ) (xs : List Emission) (w : Shaped y.now) (q : in_hand y.entries ≡ y.now.batch) (i : Paced L y) where
  back_quiet : (r : Refusal) (s : State) → eqb (refusal_number r) 24 ≡ false → At L y.entries s → Going L y (HandBack mask xs) (out (Refused r) s y.counters)
  unfolding is_begin is_hand_back refused is_committed is_advanced number
  back_quiet r s e j = going_quiet L y (HandBack mask xs) (Refused r) s y.counters (record { begins = refl; advanced = refl; commits = e }) j

  some_in_hand : non_empty y.now.batch ≡ true → 0 < length (in_hand y.entries)
  some_in_hand e = rw q (some_long y.now.batch e)

  back_spends : (b : ℕ) (s : State) (c : Counters) → non_empty y.now.batch ≡ true → At L y.entries s → Going L y (HandBack mask xs) (out (Refused (Answers.EventBudgetExceeded b)) s c)
  unfolding is_begin is_hand_back refused is_committed is_advanced number refusal_number
  back_spends b s c e j = going_returned L y (HandBack mask xs) (Refused (Answers.EventBudgetExceeded b)) s c (record { begins = refl; advanced = refl; commits = refl }) (some_in_hand e) j

  back_commits : (g : ℕ) (s : State) (c : Counters) → non_empty y.now.batch ≡ true → At L y.entries s → Going L y (HandBack mask xs) (out (Committed g) s c)
  unfolding is_begin is_hand_back refused is_committed is_advanced number
  back_commits g s c e j = going_returned L y (HandBack mask xs) (Committed g) s c (record { begins = refl; advanced = refl; commits = refl }) (some_in_hand e) j

  back_refreshed : (h : ℕ) → At L y.entries (refreshed (handled y.now xs) h y.now.edges y.now.inbound y.now.horizons)
  unfolding Paced At refreshed
  back_refreshed h = pace_stay (counts_of y.entries) L y.now.edges y.now.edges y.now.horizons _ y.now.stored i refl (omega arith) (all_stay _ (counts_of y.entries).end 0 y.now.horizons) i.looks

  going_back : Going L y (HandBack mask xs) (rule y.now y.counters (HandBack mask xs))
  unfolding rule Paced At refusal_number
  going_back = by_back y.now y.counters mask xs (Going L y (HandBack mask xs)) (record {
    foreign = λ e. not_both e (passes_11 y.now w);
    poisoned = λ _. back_quiet _ _ refl i;
    empty = λ _. back_quiet _ _ refl i;
    malformed = back_quiet _ _ refl i;
    lost = λ _ r l. back_quiet r _ l.not_24 i;
    no_horizon = λ _ _. back_quiet _ _ refl i;
    spends = λ h b m. back_spends b _ _ m.reply.some_batch i;
    commits = λ h b m. back_commits _ _ _ m.reply.some_batch (back_refreshed h);
  })

going : (L : ℕ) (y : History) (k : Call) → Shaped y.now → in_hand y.entries ≡ y.now.batch → Paced L y → Going L y k (rule y.now y.counters k)
going L y (AddInitial m) w q i = going_initial L y m w i
going L y (Begin h b) w q i = going_begin L y h b w i
going L y Step w q i = going_step L y w i
going L y (HandBack mask xs) w q i = going_back L y mask xs w q i

pub pace_kept : (L : ℕ) (y : History) (k : Call) → Shaped y.now → in_hand y.entries ≡ y.now.batch → Paced L y → Paced L (append_call y k (rule y.now y.counters k))
unfolding Going
pace_kept L y k w q i = going L y k w q i
