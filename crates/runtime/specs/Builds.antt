-- What build promises: document 01, "Calls and what they turn away", rows 1 to 10, and 40 of A.4.
use Rattle.std.specs.Prelude.{◌≡◌, List, ℕ}
use Rattle.rules.specs.Answers.{Refusal, Accepted, Refused, number, values}
use Rattle.rules.specs.Build.{Setup, setup, built, build}
use Rattle.state.specs.declared.Runtime.{Runtime}
use Rattle.state.specs.declared.Counters.{Counters}
use Rattle.state.specs.View.{view_of, counters_of}
use Rattle.build_topology.specs.Lookaheads.{lookaheads_for}
use Rattle.build.specs.Checks.{answer_of}
use Rattle.build.specs.Initialized.{empty_runtime}
use Rattle.build.specs.Numbers.{number_of, values_of}
use Rattle.runtime.specs.declared.BuildResult.{BuildResult}

-- "Once built, ..", of every setup with these rows that build accepts.
pub record Makes (n L : ℕ) (sources counts destinations lookaheads : List ℕ) (r : Runtime) : Type 0 where
  pub of_ids : (ids : List ℕ) → view_of r ≡ built (setup n L ids sources counts destinations (lookaheads_for destinations lookaheads))

pub record Builds (a : Setup) (c : Counters) (r : BuildResult) : Type 0 where
  -- The answer is the rule's, and so are document 01's number and values of it.
  pub answered : answer_of r.answer ≡ (build a (counters_of c)).answer
  pub number_is : number_of r.answer ≡ number (build a (counters_of c)).answer
  pub values_are : values_of r.answer ≡ values (build a (counters_of c)).answer
  pub made : (build a (counters_of c)).answer ≡ Accepted → view_of r.state ≡ built a
  pub counted : counters_of r.counters ≡ (build a (counters_of c)).counters
  -- "nothing made"; "a refused build leaves the lent counters untouched".
  pub refused : (why : Refusal) → (build a (counters_of c)).answer ≡ Refused why → (r.state ≡ empty_runtime) × (r.counters ≡ c)
