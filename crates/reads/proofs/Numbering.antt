-- The number and the values of what a read answers are those of the rules' answer that it stands for.
use Rattle.std.specs.Prelude.{Result, Ok, Err, []}
use mathlib.Core.Path.{◌≡◌, refl, ap, ◌∙◌}
use Rattle.rules.specs.State as R
use Rattle.rules.specs.State.{State}
use Rattle.rules.specs.Answers.{number, values, reading_values}
use Rattle.rules.specs.Rows.{Out, out}
use Rattle.state.specs.declared.Runtime.{Runtime}
use Rattle.state.specs.declared.Counters.{Counters}
use Rattle.state.specs.View.{view_of, counters_of}
use Rattle.state.specs.declared.Refusal.{Refusal}
use Rattle.state.proofs.Numbering as State
use Rattle.reads.specs.declared.Reading.{Reading}
use Rattle.reads.specs.declared.Reading.TheVariants as P
use Rattle.reads.specs.Numbers.{number_of, values_of}
use Rattle.reads.specs.Reads.{read_of, Reads}

numbering : (a : Result Reading Refusal) → (number_of a ≡ number (read_of a)) × (values_of a ≡ values (read_of a))
unfolding number values reading_values
numbering (Ok (P.Gvt g)) = (refl, refl)
numbering (Ok (P.Counted c u)) = (refl, refl)
numbering (Ok (P.Pending k)) = (refl, refl)
numbering (Ok (P.Earliest t)) = (refl, refl)
numbering (Err r) = (State.numbered [] (Err r) _ refl, State.valued [] (Err r) _ refl)

-- A read that gives what the rule does.
pub numbered : (rule : State → R.Counters → Out) (s : Runtime) (c : Counters) (a : Result Reading Refusal) → out (read_of a) (view_of s) (counters_of c) ≡ rule (view_of s) (counters_of c) → Reads rule s c a
numbered rule s c a e = record {
  gives = e;
  number_is = (numbering a).0 ∙ ap (λ (o : Out). number o.answer) e;
  values_are = (numbering a).1 ∙ ap (λ (o : Out). values o.answer) e;
}
