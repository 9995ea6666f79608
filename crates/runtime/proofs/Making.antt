-- What each return of build gives.
use Rattle.std.specs.Prelude.{Ok, Err}
use mathlib.Core.Path.{◌≡◌, refl, sym, ap, ◌∙◌}
use mathlib.Core.List.{List}
use Prim.Native.Nat.{ℕ}
use Rattle.words.specs.Words.{zeroes}
use Rattle.rules.specs.Answers.{Accepted}
use Rattle.rules.specs.Build.{Setup, setup, build}
use Rattle.state.specs.declared.Runtime.{Runtime}
use Rattle.state.specs.declared.Counters.{Counters}
use Rattle.state.specs.View.{counters_of, zero_counters}
use Rattle.build_topology.specs.Lookaheads.{lookaheads_for}
use Rattle.build.specs.declared.BuildRefusal.{BuildRefusal}
use Rattle.build.specs.Checks.{answer_of, ChecksBuild}
use Rattle.build.specs.Initialized.{CanInitialize, empty_runtime}
use Rattle.build.proofs.AnswerRows.{never, counters_accepted, counters_refused}
use Rattle.build.proofs.Initializing.{can_initialize}
use Rattle.build.proofs.Numbering.{Built, refusing, numbered, valued}
use Rattle.runtime.specs.Builds.{Makes, Builds}

module _ (n L : ℕ) (ids sources counts ds ws : List ℕ) (c : Counters) (r : Built) (j : ChecksBuild n L ids sources counts ds ws r) where
  abbrev a : Setup
  a = setup n L ids sources counts ds (lookaheads_for ds ws)

  answer_is : answer_of r ≡ (build a (counters_of c)).answer
  answer_is = j.of_counters (counters_of c)

  module _ (e : r ≡ Ok tt) where
    accepts : (build a (counters_of c)).answer ≡ Accepted
    accepts = sym answer_is ∙ ap answer_of e

    pub can_make : CanInitialize n L sources counts ds ws (zeroes 3072) (zeroes 256)
    can_make = can_initialize n L ids sources counts ds ws (counters_of c) (zeroes 3072) accepts refl

    pub accepted : (s : Runtime) → Makes n L sources counts ds ws s → (k : Counters) → k ≡ zero_counters → Builds a c (record { answer = Ok tt; state = s; counters = k })
    accepted s m k z = record {
      answered = sym accepts;
      number_is = numbered (Ok tt) _ (sym accepts);
      values_are = valued (Ok tt) _ (sym accepts);
      made = λ _. m.of_ids ids;
      counted = ap counters_of z ∙ sym (counters_accepted a (counters_of c) accepts);
      refused = λ why x. never why (sym x ∙ accepts);
    }

  pub refused : (w : BuildRefusal) → r ≡ Err w → (s : Runtime) → s ≡ empty_runtime → Builds a c (record { answer = Err w; state = s; counters = c })
  refused w e s z =
      let i : answer_of (Err w) ≡ (build a (counters_of c)).answer = ap answer_of (sym e) ∙ answer_is in
      refusing r w e (λ why x. record {
        answered = i;
        number_is = numbered (Err w) _ i;
        values_are = valued (Err w) _ i;
        made = λ y. never why (sym x ∙ answer_is ∙ y);
        counted = sym (counters_refused a (counters_of c) why (sym answer_is ∙ x));
        refused = λ _ _. (z, refl);
      })
