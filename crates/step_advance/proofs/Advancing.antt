-- The leaves of an advance, put together.
use mathlib.Core.Path.{◌≡◌, refl, sym, ◌∙◌}
use mathlib.Core.Bool.{Bool, false, ◌||◌}
use mathlib.Core.List.{List}
use Prim.Native.Nat.{ℕ, suc, ◌≤◌, ◌<◌}
use native.Mathlib.Omega.{arith}
use lib.Dec.{leb, ltb}
use borrow.Author.Tests.{lt-leb, le-leb}
use Rattle.types.specs.declared.SimTime.{SimTime}
use Rattle.types.specs.Value.{ticks_of}
use Rattle.words.specs.Words.{horizons_of, inbounds_of}
use Rattle.words.proofs.Tab.{tab_cong}
use Rattle.records.specs.Records.{edges_of, events_of}
use Rattle.rules.specs.State.{State, with_bounds}
use Rattle.rules.specs.Frontiers.{inbound_of}
use Rattle.rules.specs.Step.{new_horizons}
use Rattle.rules.specs.InPlace.{with_edges, raise_bounds}
use Rattle.rules.proofs.Tests.{and_off}
use Rattle.rules.proofs.Shape.{Queued}
use Rattle.rules.proofs.Again.{progress_once}
use Rattle.inbound.proofs.Recording.{inbounds_made}
use Rattle.frontiers.specs.Tables.{FirstTicks}
use Rattle.frontiers.specs.Rises.{RaisesInPlace, RaisesBounds}
use Rattle.frontiers.specs.InputFrontiers.{Eligible}
use Rattle.state.specs.declared.Header.{Header}
use Rattle.state.specs.View.{view}
use Rattle.state.specs.Headers.{with_gvt}
use Rattle.step_advance.specs.declared.Refreshed.{Refreshed}
use Rattle.step_advance.specs.Refreshes.{RefreshesTo, Refreshes}
use Rattle.step_advance.specs.Advances.{FirstTicksOf, BudgetSpent, CanAdvance, AdvancesTo, Advances}

-- The budget is not spent; or it is, and an event is eligible or not.
pub spends_not : (h : Header) (processes first : List ℕ) → h.used < h.budget → BudgetSpent h processes first false
unfolding BudgetSpent
spends_not h processes first l E P B t = sym (and_off (leb h.budget h.used) _ (lt-leb h.budget h.used l))

pub spends_if : (h : Header) (processes first : List ℕ) (top : SimTime) (r : Bool) → h.budget ≤ h.used → ticks_of top ≡ suc (ticks_of h.horizon) → Eligible h.n (ticks_of top) processes first r → BudgetSpent h processes first r
unfolding BudgetSpent Eligible
spends_if h processes first top r l et e E P B t = rw et at e (events_of h.pending P) t ∙ sym (rw (le-leb h.budget h.used l))

module _ (h : Header) (E Z first Z' E' Z'' : List ℕ) (top : SimTime) (r : Refreshed) (k : ℕ) (b : Bool)
    (m : CanAdvance h E Z)
    (et : ticks_of top ≡ suc (ticks_of h.horizon))
    (re : Refreshes h.n (ticks_of h.gvt) (ticks_of top) Z first r Z')
    (ra : RaisesBounds h.edges h.n (ticks_of top) first E Z' E' Z'' k)
    (up : b ≡ (ltb 0 k || r.rose)) where
  module _ (P B : List ℕ) (q : Queued h.n h.next (events_of h.pending P)) (t : FirstTicksOf h P first) where
    s : State
    s = view h E P Z B

    firsts : FirstTicks h.n (events_of h.pending P) (ticks_of top) first
    firsts = rw et t

    rises : RefreshesTo s (ticks_of h.horizon) r (horizons_of h.n Z')
    unfolding s
    rises = re.rises (view h E P Z B) (ticks_of h.horizon) refl refl refl refl et q firsts

    raised : raise_bounds s (suc (ticks_of h.horizon)) ≡ record { now = with_edges s (edges_of h.edges E'); raised = k }
    unfolding s RaisesInPlace
    raised = rw (← et) (ra.in_place (view h E P Z B) refl (sym re.record_kept) firsts)

    -- The local horizons stay while bounds and record are written.
    horizons : horizons_of h.n Z'' ≡ new_horizons s (suc (ticks_of h.horizon))
    horizons = tab_cong _ _ 0 h.n (λ p _ l. ra.recorded.horizons p (omega (arith, m.few_processes))) ∙ rises.horizons

    recorded : inbounds_of h.n Z'' ≡ inbound_of h.n (edges_of h.edges E')
    recorded = inbounds_made h.n (edges_of h.edges E') Z' Z'' ra.recorded

    advances : AdvancesTo s (ticks_of h.horizon) (record { head = with_gvt h r.gvt; raised = k; rose = b }) (view (with_gvt h r.gvt) E' P Z'' B)
    unfolding s AdvancesTo
    advances =
        (λ i. record { state = with_bounds (view h E P Z B) (edges_of h.edges E') (recorded i) (horizons i) (rises.gvt i); raised = k; rose = (up ∙ (λ j. ltb 0 k || rises.rose j)) i })
        ∙ sym (progress_once (view h E P Z B) (ticks_of h.horizon) (edges_of h.edges E') k raised)

  pub advance_is : Advances h E Z first (record { head = with_gvt h r.gvt; raised = k; rose = b }) E' Z''
  unfolding s
  advance_is = record { head = refl; advances = advances }
