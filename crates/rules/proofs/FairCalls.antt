-- Every call keeps the invariant behind order.
use mathlib.Core.Path.{◌≡◌, refl, sym, subst}
use mathlib.Core.Bool.{true, false, true≢false}
use mathlib.Core.List.{List, []}
use Prim.Native.Nat.{ℕ, suc, ◌-◌}
use native.Mathlib.Omega.{arith}
use Rattle.rules.specs.Base.{up_to}
use Rattle.rules.specs.State.{Event, Message, State, Counters, numbered, with_pending, with_run, with_batch, closed, poison}
use Rattle.rules.specs.Answers.{Answer, Accepted, Batch, Advanced, Finished, Committed, Refused, Refusal}
use Rattle.rules.specs.Rows.{Row, Out, out}
use Rattle.rules.specs.Pending.{insert}
use Rattle.rules.specs.Frontiers.{safe}
use Rattle.rules.specs.Refresh.{refresh_to, refreshed}
use Rattle.rules.specs.Step.{taken_at, input_frontier, new_horizons, advanced}
use Rattle.rules.specs.HandBack.{Emission, process_rows, messages, handled}
use Rattle.rules.specs.Calls.{Call, AddInitial, Begin, Step, HandBack, rule}
use Rattle.rules.specs.History.{History, append_call, events}
use Rattle.rules.proofs.Tests.{not_both}
use Rattle.rules.proofs.Lists.{all_front}
use Rattle.rules.proofs.Cases.{by_initial, by_begin, Steps, StepCases, by_step, Commits, BackCases, by_back}
use Rattle.rules.proofs.Shape.{Shaped, passes_11, no_horizon_never, below_top}
use Rattle.rules.proofs.Recorded.{RecordBelow, record_below}
use Rattle.rules.proofs.ShapeCalls.{batch_runs, shape_handled}
use Rattle.rules.proofs.Handed.{given}
use Rattle.rules.proofs.FairMoves.{Fair, fair_insert, fair_batch, fair_raised, fair_bounds, fair_empty, fair_closed, fair_queued, timely}

abbrev pub FairAt : List Event → State → Type 0
FairAt g s = Fair g s.pending s.batch s.edges s.horizons s.initial s.running

unfoldable pub FairIn : History → Type 0
FairIn y = FairAt (given y.entries) y.now

unfoldable pub Handing : History → Call → Out → Type 0
Handing y k o = FairIn (append_call y k o)

-- A call that hands out nothing: what it leaves is fair for the same events handed out.
nothing_handed : (y : History) (k : Call) (a : Answer) (t : State) (c : Counters) → events a ≡ [] → FairAt (given y.entries) t → Handing y k (out a t c)
unfolding Handing FairIn given
nothing_handed y k a t c e i = rw e i

-- The record of a state that 11 lets pass is at most each bound.
below_bounds : (s : State) → Shaped s → RecordBelow s.inbound s.edges
below_bounds s w = record_below s.n s.inbound s.edges w.recorded w.wired.joined

module _ (y : History) (w : Shaped y.now) (i : FairAt (given y.entries) y.now) where
  -- The state as given, after a refusal.
  stays : (k : Call) (r : Refusal) (c : Counters) → Handing y k (out (Refused r) y.now c)
  unfolding events
  stays k r c = nothing_handed y k (Refused r) y.now c refl i

  initial_accept : (m : Message) (n : ℕ) → y.now.initial ≡ true → Handing y (AddInitial m) (out Accepted (with_pending y.now (insert (numbered m y.now.next) y.now.pending) n) y.counters)
  unfolding events
  initial_accept m n o = nothing_handed y (AddInitial m) Accepted _ y.counters refl (fair_insert (given y.entries) y.now.pending y.now.batch y.now.edges y.now.horizons y.now.initial y.now.running _ o i)

  begin_accept : (h b : ℕ) → Handing y (Begin h b) (out Accepted (with_run y.now h b) y.counters)
  unfolding events
  begin_accept h b = nothing_handed y (Begin h b) Accepted _ y.counters refl (record { order = i.order; above = i.above; floor = i.floor; held = i.held; reach = i.reach; capped = i.capped; under = i.under; fresh = λ e. absurd (true≢false (sym e)); opened = λ _. refl })

  step_batch : (h b : ℕ) → Steps y.now h b → Handing y Step (out (Batch (taken_at y.now h b).events y.now.gvt) (with_batch y.now (taken_at y.now h b).events (taken_at y.now h b).left) y.counters)
  unfolding Handing FairIn given events up_to
  step_batch h b k = fair_batch (given y.entries) y.now.pending y.now.batch y.now.edges y.now.horizons y.now.inbound (suc h) y.now.n (b - y.now.used) y.now.initial y.now.running (below_bounds y.now w) w.queued.order k.open_run i

  -- The fronts after an advance, with nothing in hand.
  moved : (h b : ℕ) → Steps y.now h b → FairAt (given y.entries) (poison (advanced y.now h))
  unfolding input_frontier refresh_to refreshed
  moved h b k =
      let s = y.now in
      let g = given y.entries in
      let o : s.initial ≡ false = i.opened k.open_run in
      let hs : List ℕ = new_horizons s (suc h) in
      let one = fair_raised g s.pending s.edges s.horizons s.inbound (suc h) s.initial s.running (input_frontier s (suc h)) (λ _. suc h) (below_bounds s w) w.queued.order o (λ p. omega arith) (λ p. omega arith) (fair_empty g s.pending s.batch s.edges s.horizons s.initial s.running i) in
      let two = fair_raised g s.pending s.edges hs s.inbound (suc h) s.initial s.running (refresh_to s.inbound (suc h) s.pending) (safe s.inbound (suc h)) (below_bounds s w) w.queued.order o (λ p. omega arith) (λ p. omega arith) one in
      fair_bounds s (suc h) g hs (refresh_to s.inbound (suc h) s.pending) refl (below_top s.stored h b k.stored w.runs.below) w i.reach two

  -- The same with the batch as it was, which is empty.
  unmoved_batch : (h b : ℕ) → Steps y.now h b → FairAt (given y.entries) (advanced y.now h)
  unfolding refreshed
  unmoved_batch h b k = subst (λ (bs : List Event). Fair (given y.entries) y.now.pending bs (advanced y.now h).edges (advanced y.now h).horizons y.now.initial y.now.running) (sym k.empty) (moved h b k)

  step_cases : StepCases y.now y.counters (Handing y Step)
  unfolding events
  step_cases = record {
    foreign = λ f. not_both f (passes_11 y.now w);
    refused = λ r _. stays Step r y.counters;
    batch = λ h b k _. step_batch h b k;
    spends = λ h b k. nothing_handed y Step (Refused _) (closed y.now) y.counters refl (fair_closed (given y.entries) y.now.pending y.now.batch y.now.edges y.now.horizons y.now.initial y.now.running i);
    rise = λ h b k _. nothing_handed y Step (Advanced _) (advanced y.now h) _ refl (unmoved_batch h b k.steps);
    finish = λ h b k _ _. nothing_handed y Step (Finished _) (closed (advanced y.now h)) y.counters refl (unfold refreshed in fair_closed (given y.entries) y.now.pending y.now.batch (advanced y.now h).edges (advanced y.now h).horizons y.now.initial y.now.running (unmoved_batch h b k.steps));
    last_branch = λ h b k _ _. nothing_handed y Step (Refused _) (poison (advanced y.now h)) y.counters refl (moved h b k.steps);
  }

  queued_up : (mask : ℕ) (xs : List Emission) (h b : ℕ) → Commits y.now mask xs h b → FairAt (given y.entries) (handled y.now xs)
  queued_up mask xs h b k =
      fair_queued (given y.entries) y.now.pending y.now.batch y.now.edges y.now.horizons y.now.initial y.now.running y.now.next (messages xs)
      (timely y.now (given y.entries) mask xs w.wired.ahead i k.reply.formed (all_front (λ (r : Row). r.test ≡ false) (process_rows y.now mask xs y.now.batch) _ k.passed)) i

  refreshed_up : (mask : ℕ) (xs : List Emission) (h b : ℕ) → Commits y.now mask xs h b → Shaped (handled y.now xs) → FairAt (given y.entries) (refreshed (handled y.now xs) h y.now.edges y.now.inbound y.now.horizons)
  unfolding refreshed refresh_to
  refreshed_up mask xs h b k v =
      let t = handled y.now xs in
      fair_raised (given y.entries) t.pending t.edges t.horizons t.inbound (suc h) t.initial t.running (refresh_to t.inbound (suc h) t.pending) (safe t.inbound (suc h)) (below_bounds t v) v.queued.order
      (i.opened (batch_runs y.now w k.reply.some_batch)) (λ p. omega arith) (λ p. omega arith) (queued_up mask xs h b k)

  back_cases : (mask : ℕ) (xs : List Emission) → BackCases y.now y.counters mask xs (Handing y (HandBack mask xs))
  unfolding events
  back_cases mask xs =
      let k = HandBack mask xs in
      record {
        foreign = λ f. not_both f (passes_11 y.now w);
        poisoned = λ _. stays k _ y.counters;
        empty = λ _. stays k _ y.counters;
        malformed = stays k _ y.counters;
        lost = λ _ r _. nothing_handed y k (Refused r) (poison y.now) y.counters refl (fair_empty (given y.entries) y.now.pending y.now.batch y.now.edges y.now.horizons y.now.initial y.now.running i);
        no_horizon = λ j u. no_horizon_never y.now w j.some_batch u;
        spends = λ h b c. nothing_handed y k (Refused _) (closed (handled y.now xs)) _ refl (let t = handled y.now xs in fair_closed (given y.entries) t.pending [] t.edges t.horizons t.initial t.running (queued_up mask xs h b c));
        commits = λ h b c. nothing_handed y k (Committed _) _ _ refl (refreshed_up mask xs h b c (shape_handled y.now y.counters w mask xs h b c));
      }

fair_call : (y : History) (k : Call) → Shaped y.now → FairIn y → Handing y k (rule y.now y.counters k)
unfolding rule FairIn
fair_call y (AddInitial m) w i = by_initial y.now y.counters m (λ o. Handing y (AddInitial m) o) (record { foreign = λ f. not_both f (passes_11 y.now w); refused = λ r _. stays y w i (AddInitial m) r y.counters; accept = λ p. initial_accept y w i m _ p.opened })
fair_call y (Begin h b) w i = by_begin y.now y.counters h b (λ o. Handing y (Begin h b) o) (record { foreign = λ f. not_both f (passes_11 y.now w); refused = λ r _. stays y w i (Begin h b) r y.counters; accept = λ _. begin_accept y w i h b })
fair_call y Step w i = by_step y.now y.counters (λ o. Handing y Step o) (step_cases y w i)
fair_call y (HandBack mask xs) w i = by_back y.now y.counters mask xs (λ o. Handing y (HandBack mask xs) o) (back_cases y w i mask xs)

pub fair_kept : (y : History) (k : Call) → Shaped y.now → FairIn y → FairIn (append_call y k (rule y.now y.counters k))
unfolding Handing
fair_kept y k w i = fair_call y k w i
