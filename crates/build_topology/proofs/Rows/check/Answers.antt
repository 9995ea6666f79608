use mathlib.Core.Path.{refl}
use native.Mathlib.Omega.{arith}
use Rattle.std.proofs.lemmas.Result.{err_from_is_err_and}
use Rattle.build_topology.proofs.Decided.{turned_none, turned_all, turned_ready, turned_fits, turned_unknown, turned_refused, turned_sound}
use Rattle.build_topology.proofs.Rows.check.Goals as goal

pub loop-i-init : goal.loop-i-init
loop-i-init c = search turned_none depth 1

pub returns-then-n-to_word : goal.returns-then-n-to_word
returns-then-n-to_word c = search turned_unknown depth 1

pub overflow_add-end : goal.overflow_add-end
overflow_add-end c = omega (arith, c.requires.beside, turned_fits _ _ _ _ _ c.requires _ _ _ c.loop-i.invariant c.loop-i-test.true)

pub overflow_mul-high : goal.overflow_mul-high
overflow_mul-high c = omega (arith, c.requires.beside, turned_fits _ _ _ _ _ c.requires _ _ _ c.loop-i.invariant c.loop-i-test.true)

pub slice_bounds-check_row-end : goal.slice_bounds-check_row-end
slice_bounds-check_row-end c = search turned_fits depth 1

pub slice_bounds-check_row-end-in-loop-i : goal.slice_bounds-check_row-end-in-loop-i
slice_bounds-check_row-end-in-loop-i c = omega (arith, c.requires.beside, turned_fits _ _ _ _ _ c.requires _ _ _ c.loop-i.invariant c.loop-i-test.true)

pub check_row-requires : goal.check_row-requires
check_row-requires c =
    turned_ready _ _ _ _ _ c.requires _ _ _ c.loop-i.invariant c.loop-i-test.true _ refl

pub loop-i-preserved : goal.loop-i-preserved
loop-i-preserved c =
    turned_sound _ _ _ _ _ c.requires _ _ _ c.loop-i.invariant c.loop-i-test.true _ c.to_word.ensures c.if-n-to_word.false _ refl _ _ c.check_row.ensures c.in_ok-check_row.was c.check_row.auto.marks

pub returns-in_err-check_row : goal.returns-in_err-check_row
returns-in_err-check_row c =
    let p = err_from_is_err_and c.from_residual.result c.from_residual.ensures.1 in
    rw (p.1, p.2) (turned_refused _ _ _ _ _ c.requires _ _ _ c.loop-i.invariant c.loop-i-test.true _ c.to_word.ensures c.if-n-to_word.false _ refl _ _ c.check_row.ensures _ c.in_err-check_row.was)

pub returns : goal.returns
returns c = search turned_all depth 1
