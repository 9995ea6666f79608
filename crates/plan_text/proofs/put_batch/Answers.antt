use native.Mathlib.Omega.{arith}
use mathlib.Core.Path.{◌≡◌}
use Rattle.plan_text.proofs.Appending.{append_none}
use Rattle.plan_text.proofs.Lines.{batch_more, batch_none}
use Rattle.plan_text.proofs.put_batch.Goals as goal

pub loop-i-init : goal.loop-i-init
loop-i-init c = rw batch_none (append_none _ _)

pub loop-i-preserved : goal.loop-i-preserved
loop-i-preserved c =
    let l = c.loop-i in
    let x = c.record_in-e in
    batch_more _ _ _ _ l.i _ _ _ _ x.result x.ensures c.tick.ensures l.invariant c.put_event-end.ensures

pub returns : goal.returns
returns c =
    let l = c.loop-i in
    let e : l.i ≡ c.args.count = omega arith in
    rw e at l.invariant
