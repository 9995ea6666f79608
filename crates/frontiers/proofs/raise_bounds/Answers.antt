use borrow.Author.Rules.{rules}
use native.Mathlib.Omega.{arith}
use Rattle.frontiers.proofs.RaisingBounds.{raising_start, raising_more, raising_end, source_of, destination_of, edge_most}
use Rattle.frontiers.proofs.raise_bounds.Goals as goal

pub loop-i-init : goal.loop-i-init
loop-i-init c = search (raising_start, rules)

pub source_bound-last-requires : goal.source_bound-last-requires
source_bound-last-requires c = search (source_of, rules)

pub overflow_add-raised : goal.overflow_add-raised
overflow_add-raised c = omega (arith, edge_most _ _ _ _ _ c.raise_bound-raised.ensures)

pub lower-requires : goal.lower-requires
lower-requires c =
    (search rules, search rules, destination_of _ _ _ _ _ _ _ _ _ _ _ _ _ _ c.loop-i-test.true c.loop-i.invariant.2 c.raise_bound-raised.ensures c.requires.destinations)

pub loop-i-preserved : goal.loop-i-preserved
loop-i-preserved c =
    (search rules, search rules, raising_more _ _ _ _ _ _ _ _ _ _ _ c.source_bound-last.result c.requires.few_processes c.requires.sources c.loop-i-test.true c.loop-i.invariant.2 c.source_bound-last.ensures _ _ _ c.raise_bound-raised.ensures c.lower.ensures)

pub returns : goal.returns
returns c = search raising_end depth 1
