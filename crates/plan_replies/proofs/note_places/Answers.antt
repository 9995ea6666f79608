use Rattle.plan_replies.proofs.note_places.Goals as goal
-- `plan_replies::note_places` meets its contract.
use native.Mathlib.Omega.{arith}
use Rattle.bits.proofs.Streams.{length_stream}
use Rattle.plan_replies.proofs.Noting.{noting_start, noting_more, noting_short, noted_as}

pub loop-k-init : goal.loop-k-init
loop-k-init c = λ rs g. noting_start _ rs _ _ c.requires.blank g.few g.standing

pub skip_reply-requires : goal.skip_reply-requires
skip_reply-requires c =
    let pre = c.requires in
    let n = c.loop-k.invariant pre.replies pre.there in
    (pre.short, rw length_stream at n.ahead.inside)

pub returns-in_default : goal.returns-in_default
returns-in_default c =
    let pre = c.requires in
    let n = c.loop-k.invariant pre.replies pre.there in
    absurd (noting_short _ _ _ _ _ n (omega (arith, pre.there.counted, c.loop-k-test.true)) _ c.skip_reply.ensures c.in_default.is)

pub loop-k-preserved : goal.loop-k-preserved
loop-k-preserved c = λ rs g. noting_more _ rs _ _ _ (c.loop-k.invariant rs g) (omega (arith, g.counted, c.loop-k-test.true)) _ c.skip_reply.ensures _ c.in-Some.is

pub returns : goal.returns
returns c = λ rs g. noted_as _ rs _ _ _ _ g.counted (omega (arith, g.counted)) (c.loop-k.invariant rs g)
