use mathlib.Core.Path.{sym, ◌∙◌}
use native.Mathlib.Omega.{arith}
use Rattle.build_topology.proofs.Sums.{sum_stops, sum_on, sum_ends}
use Rattle.build_topology.proofs.sums_to.Goals as goal

pub returns-then-left-k : goal.returns-then-left-k
returns-then-left-k c =
    sym (c.loop-k.invariant ∙ sum_stops c.args.counts.now c.loop-k.k-index c.loop-k.left (omega arith) (omega arith))

pub loop-k-preserved : goal.loop-k-preserved
loop-k-preserved c =
    c.loop-k.invariant ∙ sum_on c.args.counts.now c.loop-k.k-index c.loop-k.left (omega arith) (omega arith)

pub returns : goal.returns
returns c = sym (c.loop-k.invariant ∙ sum_ends c.args.counts.now c.loop-k.k-index c.loop-k.left c.loop-k-test.false)
