use Rattle.plan_replies.proofs.link_replies.Goals as goal
-- `plan_replies::link_replies` meets its contract.
use native.Mathlib.Omega.{arith}
use Rattle.plan_replies.proofs.Linking.{can_link_one, linked_one}

pub link_reply-requires : goal.link_reply-requires
link_reply-requires c = can_link_one _ _ _ _ _ c.requires c.loop-k.invariant c.loop-k-test.true c.loop-k.auto.k

pub loop-k-preserved : goal.loop-k-preserved
loop-k-preserved c = λ rs e g. linked_one _ rs _ _ _ c.loop-k-test.true (omega (arith, c.loop-k.auto.k, e)) c.link_reply.ensures (c.loop-k.invariant rs e g)
