use mathlib.Core.Path.{sym}
use native.Mathlib.Omega.{arith}
use Rattle.build_topology.proofs.Sums.{fit_unpaired, fit_unordered, fit_unused, fit_many, fit_used}
use Rattle.build_topology.proofs.Rows.is_well_formed.Goals as goal

pub returns-then-self : goal.returns-then-self
returns-then-self c = fit_unpaired _ _ _ _ (λ e. omega arith)

pub returns-then-not-rising : goal.returns-then-not-rising
returns-then-not-rising c = fit_unordered _ _ _ _ (omega arith) (sym c.if-not-rising.ensures)

pub returns-then-not-sums_to : goal.returns-then-not-sums_to
returns-then-not-sums_to c = fit_unused _ _ _ _ (omega arith) (sym c.if-not-rising.ensures) (sym c.if-not-sums_to.ensures)

pub returns-then-self-gt-MAX_EDGES : goal.returns-then-self-gt-MAX_EDGES
returns-then-self-gt-MAX_EDGES c = fit_many _ _ _ _ (omega arith) (sym c.if-not-rising.ensures) (sym c.if-not-sums_to.ensures) (omega arith)

pub returns : goal.returns
returns c = fit_used _ _ _ _ (omega arith) (sym c.if-not-rising.ensures) (sym c.if-not-sums_to.ensures) (omega arith)
