use mathlib.Core.Path.{refl}
use native.Mathlib.Omega.{arith}
use Rattle.build_edges.proofs.Rows.{writing_start, row_fits, row_room, writing_more, writing_end}
use borrow.Author.Rules.{rules}
use Rattle.build_edges.proofs.write_edges.Goals as goal

pub loop-i-init : goal.loop-i-init
loop-i-init c = search writing_start depth 1

pub overflow_add-end : goal.overflow_add-end
overflow_add-end c = omega (arith, c.requires.beside, row_fits _ _ _ _ _ c.requires _ _ _ c.loop-i.invariant c.loop-i-test.true)

pub overflow_mul-high : goal.overflow_mul-high
overflow_mul-high c = omega (arith, c.requires.beside, row_fits _ _ _ _ _ c.requires _ _ _ c.loop-i.invariant c.loop-i-test.true)

pub slice_bounds-write_row-end : goal.slice_bounds-write_row-end
slice_bounds-write_row-end c = search row_fits depth 1

pub slice_bounds-write_row-end-in-loop-i : goal.slice_bounds-write_row-end-in-loop-i
slice_bounds-write_row-end-in-loop-i c = omega (arith, c.requires.beside, row_fits _ _ _ _ _ c.requires _ _ _ c.loop-i.invariant c.loop-i-test.true)

pub write_row-requires : goal.write_row-requires
write_row-requires c =
    row_room _ _ _ _ _ c.requires _ _ _ c.loop-i.invariant c.loop-i-test.true _ refl c.loop-i.auto.edges

pub loop-i-preserved : goal.loop-i-preserved
loop-i-preserved c = search (writing_more, rules)

pub returns : goal.returns
returns c = search writing_end depth 1
