-- What each return gives of a step that takes nothing.
use mathlib.Core.Path.{◌≡◌, sym, ◌∙◌}
use mathlib.Core.Bool.{Bool, true, false}
use mathlib.Core.List.{List}
use Prim.Native.Nat.{ℕ, suc}
use Rattle.types.specs.declared.SimTime.{SimTime}
use Rattle.types.specs.Value.{ticks_of}
use Rattle.records.specs.Records.{events_of}
use Rattle.rules.specs.Base.{if◌then◌otherwise◌, non_empty}
use Rattle.rules.specs.State as R
use Rattle.rules.specs.State.{State, closed}
use Rattle.rules.specs.Answers as A
use Rattle.rules.specs.Rows.{out}
use Rattle.rules.specs.Step.{taken_at, spent, count_advance, step_run}
use Rattle.rules.specs.InPlace.{advanced_in_place, advance_in_place}
use Rattle.rules.proofs.Tests.{by_bool, not_both}
use Rattle.rules.proofs.InPlace.{in_place}
use Rattle.rules.proofs.Outcomes.{rises_in_place, finishes_in_place}
use Rattle.rules.proofs.Shape.{shaped}
use Rattle.frontiers.specs.Tables.{FirstTicks}
use Rattle.state.specs.declared.Header.{Header}
use Rattle.state.specs.declared.Counters.{Counters}
use Rattle.state.specs.declared.CoreResult.{CoreResult}
use Rattle.state.specs.View.{view, counters_of}
use Rattle.state.proofs.Moves.{spent_moves, advanced_moves, finished_moves}
use Rattle.step_advance.specs.declared.Advanced.{Advanced}
use Rattle.step_advance.specs.Advances.{FirstTicksOf, BudgetSpent, AdvancesTo, Advances}
use Rattle.step.specs.WithoutBatch.{NothingTaken, without_batch, AdvancesOrRefuses, spent_of, Rises, finished_of, Answered}

-- 24, or the advance.
without_spent : (s : State) (c : R.Counters) (h b : ℕ) → spent s h b ≡ true → without_batch s c h b ≡ out (A.Refused (A.EventBudgetExceeded b)) (closed s) c
unfolding without_batch if◌then◌otherwise◌
without_spent s c h b e = rw e

without_advance : (s : State) (c : R.Counters) (h b : ℕ) → spent s h b ≡ false → without_batch s c h b ≡ advance_in_place s c h
unfolding without_batch if◌then◌otherwise◌
without_advance s c h b e = rw e

-- Where nothing was taken this is what the rules have the step give: bounds that are written one by one are those that rise all at once (A.3).
pub without_batch_holds : (s : State) (c : R.Counters) (h b : ℕ) → non_empty (taken_at s h b).events ≡ false → without_batch s c h b ≡ step_run s c h b
unfolding without_batch step_run if◌then◌otherwise◌
without_batch_holds s c h b t = rw (t, in_place.same s c h)

module _ (h : Header) (c : Counters) (E Q Z F : List ℕ) (top : SimTime) (u : Bool)
    (et : ticks_of top ≡ suc (ticks_of h.horizon))
    (fi : FirstTicks h.n (events_of h.pending Q) (ticks_of top) F)
    (sp : BudgetSpent h Z F u) where
  firsts : FirstTicksOf h Q F
  firsts = rw et at fi

  spent_is : (B : List ℕ) (b : Bool) → u ≡ b → spent (view h E Q Z B) (ticks_of h.horizon) h.budget ≡ b
  unfolding BudgetSpent
  spent_is B b e = sym (sp E Q B firsts) ∙ e

  pub goes_spent : u ≡ true → AdvancesOrRefuses h c E Q Z (spent_of h c) E Z
  goes_spent e = record { gives = λ B i. sym (without_spent (view h E Q Z B) (counters_of c) (ticks_of h.horizon) h.budget (spent_is B true e)); moves = λ es. spent_moves h.budget }

  module _ (e : u ≡ false) (E' Z' : List ℕ) (r : Advanced) (ad : Advances h E Z F r E' Z') where
    module _ (B : List ℕ) (i : NothingTaken (view h E Q Z B) (ticks_of h.horizon) h.budget) where
      abbrev s : State
      s = view h E Q Z B

      abbrev t : State
      t = view r.head E' Q Z' B

      to : record { state = t; raised = r.raised; rose = r.rose } ≡ advanced_in_place s (ticks_of h.horizon)
      unfolding AdvancesTo
      to = ad.advances Q B (shaped s i.steps.passes).queued firsts

      on : advance_in_place s (counters_of c) (ticks_of h.horizon) ≡ without_batch s (counters_of c) (ticks_of h.horizon) h.budget
      on = sym (without_advance s (counters_of c) (ticks_of h.horizon) h.budget (spent_is B false e))

      up_to : r.rose ≡ true → out (A.Advanced t.gvt) t (count_advance (counters_of c) r.raised) ≡ without_batch s (counters_of c) (ticks_of h.horizon) h.budget
      up_to up = rises_in_place s (counters_of c) (ticks_of h.horizon) h.budget _ to up ∙ on

      finished-at : r.rose ≡ false → out (A.Finished t.gvt) (closed t) (counters_of c) ≡ without_batch s (counters_of c) (ticks_of h.horizon) h.budget
      finished-at up = finishes_in_place s (counters_of c) (ticks_of h.horizon) h.budget _ to (record { steps = i.steps; none_taken = i.none_taken; not_spent = spent_is B false e }) up ∙ on

    goes_up : (q : CoreResult) → r.rose ≡ true → Rises r.head c r.raised q → AdvancesOrRefuses h c E Q Z q E' Z'
    goes_up q up w = rw w.after (record {
      gives = λ B i. (λ j. out (A.Advanced (ticks_of r.head.gvt)) (view r.head E' Q Z' B) (w.counted j)) ∙ up_to B i up;
      moves = λ es. advanced_moves (ticks_of r.head.gvt);
    })

    goes_finished : r.rose ≡ false → AdvancesOrRefuses h c E Q Z (finished_of r.head c) E' Z'
    goes_finished up = record { gives = λ B i. finished-at B i up; moves = λ es. finished_moves (ticks_of r.head.gvt) }

    pub goes_on : (q : CoreResult) → Answered r c q → AdvancesOrRefuses h c E Q Z q E' Z'
    goes_on q w = by_bool r.rose (λ t. goes_up q t (w.up t)) (λ t. rw (w.none_up t) (goes_finished t))

-- What is answered, by whether something rose.
pub answered_up : (r : Advanced) (c : Counters) (q : CoreResult) → r.rose ≡ true → Rises r.head c r.raised q → Answered r c q
answered_up r c q t w = record { up = λ _. w; none_up = λ f. not_both t f }

pub answered_none : (r : Advanced) (c : Counters) (q : CoreResult) → r.rose ≡ false → q ≡ finished_of r.head c → Answered r c q
answered_none r c q f w = record { up = λ t. not_both t f; none_up = λ _. w }
