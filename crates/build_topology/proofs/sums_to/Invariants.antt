use mathlib.Core.Path.{◌≡◌}
use lib.Dec.{eqb}
use lib.ListN.{drop}
use Rattle.rules.specs.Base.{sum}
use Rattle.build_topology.proofs.sums_to.Given as goal

abbrev pub invariant-loop-k : goal.invariant-loop-k
invariant-loop-k l = eqb (sum l.counts) l.total ≡ eqb (sum (drop l.k-index l.counts)) l.left
