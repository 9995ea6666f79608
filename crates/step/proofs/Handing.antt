-- The batch of the rules, from what the pass over the pending words leaves.
use mathlib.Core.Path.{◌≡◌, refl, ap, ◌∙◌}
use mathlib.Core.List.{List}
use Prim.Native.Nat.{ℕ, suc, ◌-◌, ◌*◌, ◌≤◌}
use native.Mathlib.Omega.{arith}
use lib.ListN.{length}
use Rattle.types.specs.declared.SimTime.{SimTime}
use Rattle.types.specs.Value.{ticks_of}
use Rattle.words.specs.Words.{inbounds_of, cleared}
use Rattle.records.specs.Records.{events_of}
use Rattle.records.proofs.Stored.{events_cleared}
use Rattle.rules.specs.Base.{up_to}
use Rattle.rules.specs.State.{with_batch}
use Rattle.rules.specs.Step.{BatchTaken, take_eligible, taken_at}
use Rattle.inbound.specs.Inbound.{frontier_in}
use Rattle.step_batch.specs.declared.BatchScan.{BatchScan}
use Rattle.step_batch.specs.Scan.{TakesBatch}
use Rattle.step_batch.proofs.Taken.{took_rule, took_none}
use Rattle.state.specs.declared.Header.{Header}
use Rattle.state.specs.View.{view}
use Rattle.state.specs.Headers.{with_counts}
use Rattle.step.specs.Steps.{CanTakeBatch, HandsOut}

module _ (h : Header) (P Z B U C W : List ℕ) (room : ℕ) (top : SimTime) (v : BatchScan) (m : CanTakeBatch h P Z B)
    (er : room ≡ h.budget - h.used)
    (et : ticks_of top ≡ suc (ticks_of h.horizon))
    (tk : TakesBatch h.pending (frontier_in Z (ticks_of top)) room P B U C v)
    (lu : 8 * h.pending ≤ length U)
    (cl : W ≡ cleared (8 * v.kept) (8 * h.pending) U) where
  kept : events_of v.kept W ≡ events_of v.kept U
  kept = ap (events_of v.kept) cl ∙ events_cleared v.kept (8 * v.kept) (8 * h.pending) U (omega arith) (omega (arith, tk.counts)) lu

  module _ (E : List ℕ) where
    rule : record { events = events_of v.taken C; left = events_of v.kept U } ≡ taken_at (view h E P Z B) (ticks_of h.horizon) h.budget
    rule = took_rule h.n Z (ticks_of top) room h.pending P B U C v tk m.order m.known
        ∙ (λ i. take_eligible (inbounds_of h.n Z) (et i) (up_to h.n) (er i) (events_of h.pending P))

    state : view (with_counts h v.kept v.taken) E W Z C ≡ with_batch (view h E P Z B) (taken_at (view h E P Z B) (ticks_of h.horizon) h.budget).events (taken_at (view h E P Z B) (ticks_of h.horizon) h.budget).left
    state = λ i. with_batch (view h E P Z B) (ap (λ (t : BatchTaken). t.events) rule i) ((kept ∙ ap (λ (t : BatchTaken). t.left) rule) i)

  pub hands_out : HandsOut h P Z B (with_counts h v.kept v.taken) W C
  hands_out = record { head = refl; state = state; none = λ e. (omega (arith, tk.counts), kept ∙ took_none h.pending (frontier_in Z (ticks_of top)) room P B U C v tk e) }
