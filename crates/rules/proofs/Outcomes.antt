-- For the code: what a step gives, from the tests as a program makes them.
use mathlib.Core.Path.{◌≡◌, sym, ap, ◌∙◌}
use mathlib.Core.Bool.{Bool, true, false, not, ◌||◌}
use mathlib.Core.List.{List, []}
use Prim.Native.Nat.{ℕ, suc}
use Rattle.rules.specs.Base.{if◌then◌otherwise◌, non_empty}
use Rattle.rules.specs.State.{Event, Stored, stored, State, Counters, with_batch, closed, poison}
use Rattle.rules.specs.Answers as A
use Rattle.rules.specs.Rows.{unless, out, refuse}
use Rattle.rules.specs.Foreign.{foreign}
use Rattle.rules.specs.Step.{taken_at, count_advance, complete, Progress, answer_advance, advanced_at_once, step_run, step_at, step}
use Rattle.rules.specs.InPlace.{advanced_in_place, advance_in_place}
use Rattle.rules.proofs.Cases.{Steps, Advances}
use Rattle.rules.proofs.Shape.{shaped}
use Rattle.rules.proofs.LastBranch.{never_last_branch}
use Rattle.rules.proofs.InPlace.{progress_at_once}

module _ (s : State) (c : Counters) where
  pub step_poisoned : foreign s ≡ false → s.poisoned ≡ true → step s c ≡ refuse s c A.Poisoned
  unfolding step unless if◌then◌otherwise◌
  step_poisoned f p = rw (f, p)

  pub step_nothing : foreign s ≡ false → s.poisoned ≡ false → not s.running || non_empty s.batch ≡ true → step s c ≡ refuse s c A.NothingToStep
  unfolding step unless if◌then◌otherwise◌
  step_nothing f p r = rw (f, p, r)

  step_open : (l : Stored) → s.stored ≡ l → foreign s ≡ false → s.poisoned ≡ false → s.running ≡ true → non_empty s.batch ≡ false → step s c ≡ step_at s c l
  unfolding step unless if◌then◌otherwise◌
  step_open l e f p r b = rw (f, p, r, b, e)

  none_in_hand : (es : List Event) → es ≡ [] → non_empty es ≡ false
  unfolding non_empty
  none_in_hand es e = rw e

  module _ (h b : ℕ) where
    pub step_runs : Steps s h b → step s c ≡ step_run s c h b
    unfolding step_at
    step_runs i = step_open (stored h b) i.stored i.passes i.healthy i.open_run (none_in_hand s.batch i.empty)

    pub run_batch : non_empty (taken_at s h b).events ≡ true → step_run s c h b ≡ out (A.Batch (taken_at s h b).events s.gvt) (with_batch s (taken_at s h b).events (taken_at s h b).left) c
    unfolding step_run if◌then◌otherwise◌
    run_batch t = rw t

    -- The advance in place (A.3), by what it has come to: something rose; or nothing did, and the run is complete, so a program need not look.
    module _ (a : Progress) (e : a ≡ advanced_in_place s h) where
      answered : answer_advance a c h ≡ advance_in_place s c h
      unfolding advance_in_place
      answered = ap (λ (x : Progress). answer_advance x c h) e

      if-rose : (t : Bool) → a.rose ≡ t → answer_advance (record { state = a.state; raised = a.raised; rose = t }) c h ≡ advance_in_place s c h
      if-rose t r = (λ j. answer_advance (record { state = a.state; raised = a.raised; rose = sym r j }) c h) ∙ answered

      pub rises_in_place : a.rose ≡ true → out (A.Advanced a.state.gvt) a.state (count_advance c a.raised) ≡ advance_in_place s c h
      unfolding if◌then◌otherwise◌
      rises_in_place r = if-rose true r

      is-complete : Advances s h b → a.rose ≡ false → complete a.state (suc h) ≡ true
      is-complete i r =
          let o : a ≡ advanced_at_once s h = e ∙ progress_at_once s h in
          ap (λ (x : Progress). complete x.state (suc h)) o ∙ never_last_branch s h b (shaped s i.steps.passes) i (sym (ap (λ (x : Progress). x.rose) o) ∙ r)

      if-complete : (t : Bool) → complete a.state (suc h) ≡ t → a.rose ≡ false → (if t then out (A.Finished a.state.gvt) (closed a.state) c otherwise out (A.Refused A.Poisoned) (poison a.state) c) ≡ advance_in_place s c h
      unfolding if◌then◌otherwise◌
      if-complete t k r = (λ j. if sym k j then out (A.Finished a.state.gvt) (closed a.state) c otherwise out (A.Refused A.Poisoned) (poison a.state) c) ∙ if-rose false r

      pub finishes_in_place : Advances s h b → a.rose ≡ false → out (A.Finished a.state.gvt) (closed a.state) c ≡ advance_in_place s c h
      unfolding if◌then◌otherwise◌
      finishes_in_place i r = if-complete true (is-complete i r) r
