use Rattle.plan_replies.proofs.fill_reply.Goals as goal
-- `plan_replies::fill_reply` meets its contract.
use native.Mathlib.Omega.{arith}
use Rattle.plan_replies.proofs.Filling.{fills_none, fills_on, still_room, owner, all_filled}

pub loop-i-init : goal.loop-i-init
loop-i-init c = fills_none _ _ _ _

pub take_reply-emitted-requires : goal.take_reply-emitted-requires
take_reply-emitted-requires c =
    let pre = c.requires in
    (still_room _ _ _ _ _ _ c.loop-i.invariant _ c.loop-i.auto.reply pre.0, owner _ _ pre.2 _ c.loop-i-test.true)

pub loop-i-preserved : goal.loop-i-preserved
loop-i-preserved c = fills_on _ _ _ _ _ _ _ c.loop-i.invariant _ _ _ c.take_reply-emitted.ensures

pub returns : goal.returns
returns c =
    let f = all_filled _ _ _ _ _ _ _ c.loop-i.invariant (omega arith) _ c.loop-i.auto.reply c.requires.0 in
    record { fills = f.0; result_in_bounds = f.1 }
