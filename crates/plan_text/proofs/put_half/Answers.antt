use native.Mathlib.Omega.{arith}
use Rattle.plan_text.proofs.Fronts.{hexadecimal_more, hexadecimal_end}
use Rattle.plan_text.proofs.put_half.Goals as goal

pub loop-i-preserved : goal.loop-i-preserved
loop-i-preserved c =
    let l = c.loop-i in
    hexadecimal_more _ _ _ _ _ l.i l.line _ (omega arith) (omega arith) c.hex_digit.ensures l.invariant

pub returns : goal.returns
returns c =
    let l = c.loop-i in
    hexadecimal_end _ _ _ 16 _ _ l.i _ (omega arith) (omega arith) l.invariant
