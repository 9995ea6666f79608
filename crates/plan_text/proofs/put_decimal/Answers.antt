use native.Mathlib.Omega.{arith}
use Rattle.plan_text.proofs.Fronts.{decimal_room, decimal_last, decimal_more, decimal_end}
use Rattle.plan_text.proofs.put_decimal.Goals as goal

pub overflow_sub-i : goal.overflow_sub-i
overflow_sub-i c =
    let l = c.loop-rest in
    omega (arith, decimal_room _ _ _ _ _ _ (omega arith) (omega arith) l.invariant.1 (omega arith))

pub loop-rest-preserved : goal.loop-rest-preserved
loop-rest-preserved c =
    let l = c.loop-rest in
    (omega arith, decimal_more _ _ _ _ _ _ (omega arith) (omega arith) l.invariant.1 (omega arith) (omega arith))

pub overflow_sub-i-2 : goal.overflow_sub-i-2
overflow_sub-i-2 c =
    let l = c.loop-rest in
    omega (arith, decimal_last _ _ _ _ _ _ (omega arith) (omega arith) l.invariant.1 (omega arith))

pub returns : goal.returns
returns c =
    let l = c.loop-rest in
    let d = decimal_end _ _ _ _ _ _ (omega arith) (omega arith) l.invariant.1 (omega arith) (omega arith) in
    record { prepends = d.0; end_bound = d.1 }
