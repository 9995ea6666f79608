-- What the parts after a reply's checks give.
use mathlib.Core.Path.{◌≡◌, refl, sym, ap, ◌∙◌}
use mathlib.Core.Bool.{Bool, true, false}
use mathlib.Core.List.{List}
use Rattle.std.specs.Prelude.{Result, Ok, Err}
use Prim.Native.Nat.{ℕ, suc, max}
use Rattle.types.specs.declared.SimTime.{SimTime}
use Rattle.types.specs.Value.{ticks_of}
use Rattle.words.specs.Words.{horizons_of}
use Rattle.records.specs.Records.{events_of}
use Rattle.rules.specs.Base.{if◌then◌otherwise◌}
use Rattle.rules.specs.State as R
use Rattle.rules.specs.State.{State, saturating_add, closed, with_bounds}
use Rattle.rules.specs.Answers as A
use Rattle.rules.specs.Rows.{out}
use Rattle.rules.specs.Refresh.{refreshed}
use Rattle.rules.specs.Step.{spent}
use Rattle.rules.proofs.Again.{refreshed_once}
use Rattle.rules.proofs.Shape.{Queued}
use Rattle.frontiers.specs.Tables.{FirstTicks}
use Rattle.state.specs.declared.Header.{Header}
use Rattle.state.specs.declared.Counters.{Counters}
use Rattle.state.specs.declared.CoreResult.{CoreResult}
use Rattle.state.specs.declared.Answer.{Answer}
use Rattle.state.specs.declared.Answer.TheVariants as D
use Rattle.state.specs.declared.Refusal.{Refusal}
use Rattle.state.specs.declared.Refusal.TheVariants as P
use Rattle.state.specs.View.{view, counters_of}
use Rattle.state.specs.Headers.{closed_header, with_gvt}
use Rattle.state.proofs.Moves.{spent_moves, committed_moves}
use Rattle.step_advance.specs.declared.Refreshed.{Refreshed}
use Rattle.step_advance.specs.Refreshes.{RefreshesTo, Refreshes}
use Rattle.step_advance.specs.Advances.{FirstTicksOf, BudgetSpent}
use Rattle.hand_back_end.specs.EndsRound.{CountsRound, round_ended, RefreshesHeader, EndsRound}

pub counts_are : (c : Counters) (handled emitted remote a b d e f : ℕ) → a ≡ saturating_add c.processed_events handled → b ≡ saturating_add c.emitted_events emitted → d ≡ saturating_add c.remote_events remote → e ≡ saturating_add c.rounds 1 → f ≡ max c.worker_count handled
    → CountsRound c handled emitted remote (record { processed_events = a; emitted_events = b; remote_events = d; rounds = e; null_messages = c.null_messages; worker_count = f })
unfolding CountsRound
counts_are c handled emitted remote a b d e f ea eb ed ee ef es xs h x m = λ i. record {
  handled = (ea ∙ ap (saturating_add c.processed_events) (sym h)) i;
  emitted = (eb ∙ ap (saturating_add c.emitted_events) (sym x)) i;
  remote = (ed ∙ ap (saturating_add c.remote_events) (sym m)) i;
  rounds = ee i;
  null_messages = c.null_messages;
  worker_count = (ef ∙ ap (max c.worker_count) (sym h)) i;
}

-- An answer with a header and counters.
abbrev after : Result Answer Refusal → Counters → Header → CoreResult
after a c h = record { answer = a; head = h; counters = c }

pub leaves : (a : Result Answer Refusal) (c : Counters) (g h : Header) → g ≡ h → after a c g ≡ after a c h
leaves a c g h e = ap (after a c) e

ended_spent : (t : State) (c : R.Counters) (h b : ℕ) → spent t h b ≡ true → round_ended t c h b ≡ out (A.Refused (A.EventBudgetExceeded b)) (closed t) c
unfolding round_ended if◌then◌otherwise◌
ended_spent t c h b e = rw e

ended_fresh : (t : State) (c : R.Counters) (h b : ℕ) → spent t h b ≡ false → let u = refreshed t h t.edges t.inbound t.horizons in round_ended t c h b ≡ out (A.Committed u.gvt) u c
unfolding round_ended if◌then◌otherwise◌
ended_fresh t c h b e = rw e

-- The refresh.
module _ (h : Header) (Z F Z' : List ℕ) (top : SimTime) (r : Refreshed) (et : ticks_of top ≡ suc (ticks_of h.horizon)) (re : Refreshes h.n (ticks_of h.gvt) (ticks_of top) Z F r Z') where
  module _ (E Q B : List ℕ) (q : Queued h.n h.next (events_of h.pending Q)) (fi : FirstTicksOf h Q F) where
    rises : RefreshesTo (view h E Q Z B) (ticks_of h.horizon) r (horizons_of h.n Z')
    rises = re.rises (view h E Q Z B) (ticks_of h.horizon) refl refl refl refl et q (rw et fi)

    state : view (with_gvt h r.gvt) E Q Z' B ≡ refreshed (view h E Q Z B) (ticks_of h.horizon) (view h E Q Z B).edges (view h E Q Z B).inbound (view h E Q Z B).horizons
    state = (λ i. with_bounds (view h E Q Z B) (view h E Q Z B).edges (re.record_kept i) (rises.horizons i) (rises.gvt i)) ∙ sym (refreshed_once (view h E Q Z B) (ticks_of h.horizon))

  pub refreshes : RefreshesHeader h Z F (with_gvt h r.gvt) Z'
  refreshes = record { state = state }

module _ (h : Header) (c : Counters) (Q Z F : List ℕ) (top : SimTime) (u : Bool)
    (et : ticks_of top ≡ suc (ticks_of h.horizon))
    (fi : FirstTicks h.n (events_of h.pending Q) (ticks_of top) F)
    (sp : BudgetSpent h Z F u) where
  firsts : FirstTicksOf h Q F
  firsts = rw et at fi

  spent_is : (E B : List ℕ) (b : Bool) → u ≡ b → spent (view h E Q Z B) (ticks_of h.horizon) h.budget ≡ b
  unfolding BudgetSpent
  spent_is E B b e = sym (sp E Q B firsts) ∙ e

  pub ends_spent : u ≡ true → EndsRound h c Q Z (record { answer = Err (P.EventBudgetExceeded h.budget); head = closed_header h; counters = c }) Z
  ends_spent e = record { gives = λ E B q. sym (ended_spent (view h E Q Z B) (counters_of c) (ticks_of h.horizon) h.budget (spent_is E B true e)); moves = λ es. spent_moves h.budget }

  pub ends_committed : u ≡ false → (Z' : List ℕ) (g : Header) → RefreshesHeader h Z F g Z' → EndsRound h c Q Z (record { answer = Ok (D.Committed g.gvt); head = g; counters = c }) Z'
  ends_committed e Z' g re = record {
    gives = λ E B q. (λ i. out (A.Committed (re.state E Q B q firsts i).gvt) (re.state E Q B q firsts i) (counters_of c))
        ∙ sym (ended_fresh (view h E Q Z B) (counters_of c) (ticks_of h.horizon) h.budget (spent_is E B false e));
    moves = λ es. committed_moves (ticks_of g.gvt);
  }
