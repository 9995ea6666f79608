use native.Mathlib.Omega.{arith}
use Rattle.words.proofs.Ticks.{filling_more, filling_end}
use Rattle.words.proofs.fill.Goals as goal

pub loop-i-preserved : goal.loop-i-preserved
loop-i-preserved c =
    let p = c.put_tick in
    let l = c.loop-i in
    filling_more l.i _ _ l.w _ _ (omega arith) l.invariant p.ensures

pub returns : goal.returns
returns c = filling_end c.loop-i.i _ _ _ _ (omega arith) (omega arith) c.loop-i.invariant
