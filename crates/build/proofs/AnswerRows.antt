-- What a table of refusals answers: in two parts, and from what its first row decides.
use mathlib.Core.Path.{◌≡◌, refl, sym, ap, ◌∙◌}
use mathlib.Core.List.{List, [], ◌∷◌, ◌++◌}
use Prim.Native.Nat.{ℕ}
use native.Mathlib.Omega.{arith}
use Rattle.rules.specs.Base.{if◌then◌otherwise◌, none, some}
use Rattle.rules.specs.State.{Counters, zeros}
use Rattle.rules.specs.Answers.{Refusal, Accepted, Refused}
use Rattle.rules.specs.Rows.{Row, unless}
use Rattle.rules.specs.Build.{Setup, build_rows, build, BuildOut}
use Rattle.rules.proofs.Tests.{by_bool}
use Rattle.rules.proofs.Table.{Passed}
use Rattle.build_topology.specs.Checks.{first_refusal}
use Rattle.build.specs.Checks.{answer_for, answer_of_rows}

pub never : {C : Type 0} (why : Refusal) → Refused why ≡ Accepted → C
never why e = let z : ◌≡◌ {A = ℕ} 0 1 = cc in absurd (omega arith)

-- A part of what a table makes.
unless_of : {A B : Type 0} (g : A → B) (rs : List Row) (f : Refusal → A) (a : A) → g (unless rs f a) ≡ unless rs (λ r. g (f r)) (g a)
unfolding unless if◌then◌otherwise◌
unless_of g [] f a = refl
unless_of g (r ∷ rs) f a = by_bool r.test (λ e. rw e) (λ e. rw e (unless_of g rs f a))

pub answer_decided : (rs : List Row) → answer_for (first_refusal rs) ≡ answer_of_rows rs
unfolding answer_of_rows first_refusal
answer_decided rs = unless_of answer_for rs some none

pub answer_built : (a : Setup) (c : Counters) → (build a c).answer ≡ answer_of_rows (build_rows a)
unfolding answer_of_rows build
answer_built a c = unless_of (λ (m : BuildOut). m.answer) (build_rows a) _ _

-- Two parts: the first refuses, or it is passed and the second answers.
pub answer_refused : (rs ts : List Row) (why : Refusal) → answer_of_rows rs ≡ Refused why → answer_of_rows (rs ++ ts) ≡ Refused why
unfolding answer_of_rows unless if◌then◌otherwise◌
answer_refused [] ts why e = never why (sym e)
answer_refused (r ∷ rs) ts why e = by_bool r.test (λ t. rw t (rw t at e)) (λ t. rw t (answer_refused rs ts why (rw t at e)))

pub answer_passed : (rs : List Row) → answer_of_rows rs ≡ Accepted → Passed rs
unfolding answer_of_rows unless if◌then◌otherwise◌
answer_passed [] e = tt
answer_passed (r ∷ rs) e = by_bool r.test (λ t. never r.refusal (rw t at e)) (λ t. (t, answer_passed rs (rw t at e)))

pub answer_on : (rs ts : List Row) → Passed rs → answer_of_rows (rs ++ ts) ≡ answer_of_rows ts
unfolding answer_of_rows unless if◌then◌otherwise◌
answer_on [] ts p = refl
answer_on (r ∷ rs) ts p = rw p.0 (answer_on rs ts p.1)

-- The counters that build leaves.
unless_done : {A : Type 0} (rs : List Row) (f : Refusal → A) (a : A) → Passed rs → unless rs f a ≡ a
unfolding unless if◌then◌otherwise◌
unless_done [] f a p = refl
unless_done (r ∷ rs) f a p = rw p.0 (unless_done rs f a p.1)

unless_refused : {A : Type 0} (rs : List Row) (x a : A) (why : Refusal) → answer_of_rows rs ≡ Refused why → unless rs (λ _. x) a ≡ x
unfolding answer_of_rows unless if◌then◌otherwise◌
unless_refused [] x a why e = never why (sym e)
unless_refused (r ∷ rs) x a why e = by_bool r.test (λ t. rw t) (λ t. rw t (unless_refused rs x a why (rw t at e)))

module _ (a : Setup) (c : Counters) where
  pub passed_all : (build a c).answer ≡ Accepted → Passed (build_rows a)
  passed_all e = answer_passed (build_rows a) (sym (answer_built a c) ∙ e)

  pub counters_accepted : (build a c).answer ≡ Accepted → (build a c).counters ≡ zeros
  unfolding build
  counters_accepted e = ap (λ (m : BuildOut). m.counters) (unless_done (build_rows a) _ _ (passed_all e))

  pub counters_refused : (why : Refusal) → (build a c).answer ≡ Refused why → (build a c).counters ≡ c
  unfolding build
  counters_refused why e = unless_of (λ (m : BuildOut). m.counters) (build_rows a) _ _ ∙ unless_refused (build_rows a) c zeros why (sym (answer_built a c) ∙ e)
