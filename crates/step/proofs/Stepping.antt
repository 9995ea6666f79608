-- What each return of a step gives.
use Rattle.std.specs.Prelude.{Result, Ok, Err}
use mathlib.Core.Path.{◌≡◌, refl, sym, ap, subst, ◌∙◌}
use mathlib.Core.Bool.{Bool, true, false, not, ◌||◌}
use mathlib.Core.List.{List, []}
use Prim.Native.Nat.{ℕ, ◌*◌, ◌≤◌, ◌<◌}
use native.Mathlib.Omega.{arith}
use lib.ListN.{length}
use Rattle.types.specs.Value.{ticks_of}
use Rattle.records.specs.Records.{event_at, events_of}
use Rattle.rules.specs.Base.{non_empty}
use Rattle.rules.specs.State.{Event, State, with_batch}
use Rattle.rules.specs.Answers as A
use Rattle.rules.specs.Rows.{out}
use Rattle.rules.specs.Step.{taken_at}
use Rattle.rules.proofs.Tests.{not_both}
use Rattle.rules.proofs.Cases
use Rattle.rules.proofs.Outcomes.{step_poisoned, step_nothing, step_runs, run_batch}
use Rattle.inbound.specs.Inbound.{Destinations}
use Rattle.frontiers.specs.Rises.{Sources}
use Rattle.state.specs.declared.Header.{Header}
use Rattle.state.specs.declared.Counters.{Counters}
use Rattle.state.specs.declared.Refusal.{Refusal}
use Rattle.state.specs.declared.Refusal.TheVariants as P
use Rattle.state.specs.View.{view, counters_of}
use Rattle.state.specs.Headers.{with_counts}
use Rattle.state.specs.ValidArrays.{ValidArrays}
use Rattle.state.proofs.Facts.{stored_is, some_events, no_events, few_processes, few_edges, edge_destinations, few_pending, sources, destinations, in_order, is_stored, below_top}
use Rattle.state.proofs.Moves.{batch_moves}
use Rattle.step_advance.specs.Advances.{CanAdvance}
use Rattle.state.specs.declared.CoreResult.{CoreResult}
use Rattle.step.specs.WithoutBatch.{NothingTaken, without_batch, AdvancesOrRefuses}
use Rattle.step.specs.Steps.{CanStep, StepRefusal, CanTakeBatch, HandsOut, batch_answered, Steps}
use Rattle.step.proofs.WithoutBatch.{without_batch_holds}

none_is : (es : List Event) → es ≡ [] → non_empty es ≡ false
unfolding non_empty
none_is es e = rw e

held_or : (a b : Bool) → b ≡ true → not a || b ≡ true
held_or true b e = e
held_or false b e = refl

module _ (h : Header) (c : Counters) (E Q Z B : List ℕ) (l : ValidArrays h E Q Z B) where
  pub step_of_poisoned : h.poisoned ≡ true → Steps h c E Q Z B (record { answer = Err P.Poisoned; head = h; counters = c }) E Q Z B
  step_of_poisoned p = record { gives = sym (step_poisoned (view h E Q Z B) (counters_of c) l.passes p); kept = λ es x. record { same_head = refl; same_counters = refl; same_edges = refl; same_pending = refl; same_processes = refl; same_batch = refl } }

  module _ (p : h.poisoned ≡ false) where
    pub step_closed : not h.running ≡ true → Steps h c E Q Z B (record { answer = Err P.NothingToStep; head = h; counters = c }) E Q Z B
    step_closed r = record { gives = sym (step_nothing (view h E Q Z B) (counters_of c) l.passes p (rw r)); kept = λ es x. record { same_head = refl; same_counters = refl; same_edges = refl; same_pending = refl; same_processes = refl; same_batch = refl } }

    pub step_held : 0 < h.batch → Steps h c E Q Z B (record { answer = Err P.NothingToStep; head = h; counters = c }) E Q Z B
    step_held k = record { gives = sym (step_nothing (view h E Q Z B) (counters_of c) l.passes p (held_or h.running _ (some_events (event_at B) 0 h.batch k))); kept = λ es x. record { same_head = refl; same_counters = refl; same_edges = refl; same_pending = refl; same_processes = refl; same_batch = refl } }

-- 12 and 23, as the program tests them.
module _ (h : Header) where
  pub poisoned : h.poisoned ≡ true → StepRefusal h (Err P.Poisoned)
  poisoned p = (λ s. not_both p s.healthy, λ c E Q Z B l. step_of_poisoned h c E Q Z B l p)

  module _ (p : h.poisoned ≡ false) where
    pub closed : h.running ≡ false → StepRefusal h (Err P.NothingToStep)
    closed r = (λ s. not_both s.open_run r, λ c E Q Z B l. step_closed h c E Q Z B l p (rw r))

    pub held : 0 < h.batch → StepRefusal h (Err P.NothingToStep)
    held k = (λ s. omega (arith, s.empty), λ c E Q Z B l. step_held h c E Q Z B l p k)

pub passed : (h : Header) (r : Result (Unit {0}) Refusal) → StepRefusal h r → ((e : Refusal) → r ≡ Err e → ⊥) → CanStep h
passed h (Ok u) p n = p
passed h (Err e) p n = absurd (n e refl)

-- What follows them: a batch, or what is done without one.
module _ (h : Header) (c : Counters) (E Q Z B : List ℕ) (l : ValidArrays h E Q Z B) (p : CanStep h) where
  none_held : h.batch ≤ 0
  none_held = omega (arith, p.empty)

  steps : Cases.Steps (view h E Q Z B) (ticks_of h.horizon) h.budget
  steps = record {
    passes = l.passes;
    healthy = p.healthy;
    open_run = p.open_run;
    empty = no_events (event_at B) 0 h.batch none_held;
    stored = stored_is h.stored (ticks_of h.horizon) h.budget (is_stored h E Q Z B l.passes p.open_run);
  }

  module _ (Q' B' : List ℕ) (g : Header) (ho : HandsOut h Q Z B g Q' B') where
    taken : view g E Q' Z B' ≡ with_batch (view h E Q Z B) (taken_at (view h E Q Z B) (ticks_of h.horizon) h.budget).events (taken_at (view h E Q Z B) (ticks_of h.horizon) h.budget).left
    taken = ho.state E

    events : events_of g.batch B' ≡ (taken_at (view h E Q Z B) (ticks_of h.horizon) h.budget).events
    events = ap (λ (s : State). s.batch) taken

    pub step_batch : 0 < g.batch → Steps h c E Q Z B (batch_answered g c) E Q' Z B'
    step_batch b = record {
      gives = (λ j. out (A.Batch (taken j).batch (taken j).gvt) (taken j) (counters_of c))
          ∙ sym (step_runs (view h E Q Z B) (counters_of c) (ticks_of h.horizon) h.budget steps
          ∙ run_batch (view h E Q Z B) (counters_of c) (ticks_of h.horizon) h.budget (ap non_empty (sym events) ∙ some_events (event_at B') 0 g.batch b));
      kept = λ es x. not_both x (batch_moves es (ticks_of g.gvt));
    }

    module _ (b : g.batch ≤ 0) where
      same : view (with_counts h g.pending g.batch) E Q' Z B' ≡ view h E Q Z B
      same =
          let n = ho.none (omega arith) in
          let e : events_of g.batch B' ≡ events_of h.batch B = no_events (event_at B') 0 g.batch b ∙ sym (no_events (event_at B) 0 h.batch none_held) in
          λ j. with_batch (view h E Q Z B) (e j) (n.1 j)

      idle : NothingTaken (view h E Q Z B) (ticks_of h.horizon) h.budget
      idle = record { steps = steps; none_taken = none_is _ (sym events ∙ no_events (event_at B') 0 g.batch b) }

      pub step_on : (E' Z' : List ℕ) (q : CoreResult) → AdvancesOrRefuses g c E Q' Z q E' Z' → Steps h c E Q Z B q E' Q' Z' B'
      step_on E' Z' q go =
          let go' : AdvancesOrRefuses (with_counts h g.pending g.batch) c E Q' Z q E' Z' = subst (λ (x : Header). AdvancesOrRefuses x c E Q' Z q E' Z') ho.head go in
          record {
            gives = go'.gives B' (subst (λ (s : State). NothingTaken s (ticks_of h.horizon) h.budget) (sym same) idle)
                ∙ ap (λ (s : State). without_batch s (counters_of c) (ticks_of h.horizon) h.budget) same
                ∙ without_batch_holds (view h E Q Z B) (counters_of c) (ticks_of h.horizon) h.budget idle.none_taken
                ∙ sym (step_runs (view h E Q Z B) (counters_of c) (ticks_of h.horizon) h.budget steps);
            kept = λ es x. not_both x (go.moves es);
          }

-- What the parts ask.
module _ (h : Header) (E Q Z B : List ℕ) (l : ValidArrays h E Q Z B) where
  pub takeable : h.running ≡ true → CanTakeBatch h Q Z B
  takeable r = record {
    few_processes = few_processes h E Q Z B l.passes;
    few_pending = few_pending h E Q Z B l.passes;
    pending_words = l.pending_words;
    process_words = l.process_words;
    batch_words = l.batch_words;
    horizon = below_top h E Q Z B l.passes r;
    order = in_order h E Q Z B l.passes;
    known = destinations h E Q Z B l.passes;
  }

  pub advanceable : (Q' B' : List ℕ) (g : Header) → h.running ≡ true → HandsOut h Q Z B g Q' B' → g.batch ≤ 0 → length Q' ≡ 4096 → CanAdvance g E Z × (8 * g.pending ≤ length Q')
  unfolding Sources Destinations
  advanceable Q' B' g r ho b n =
      let f = l.passes in
      let k : 8 * g.pending ≤ length Q' = omega (arith, (ho.none (omega arith)).0, few_pending h E Q Z B f) in
      let a : CanAdvance g E Z =
      rw ho.head (record {
        few_processes = few_processes h E Q Z B f;
        few = few_edges h E Q Z B f;
        edge_words = l.edge_words;
        process_words = l.process_words;
        sources = sources h E Q Z B f;
        destinations = edge_destinations h E Q Z B f;
        horizon = below_top h E Q Z B f r;
      }) in
      (a, k)
