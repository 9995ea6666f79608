use native.Mathlib.Omega.{arith}
use Rattle.host_reply.proofs.Enqueueing.{queued_refused, none_queued, ready_at, queued_next, queued_whole}
use Rattle.host_reply.proofs.enqueue_records.Goals as goal

pub returns-in_err-tail : goal.returns-in_err-tail
returns-in_err-tail c = queued_refused _ _ _ _ c.in_err-tail.was _ c.from_residual.ensures.1

pub loop-e-init : goal.loop-e-init
loop-e-init c = none_queued _ _ c.args.reply.now _ c.in_ok-tail.was

pub enqueue_next-requires : goal.enqueue_next-requires
enqueue_next-requires c = ready_at _ _ _ _ c.in_ok-tail.was _ _ _ c.loop-e.invariant c.requires c.loop-e-test.true

pub returns-in_err-tail-2 : goal.returns-in_err-tail-2
returns-in_err-tail-2 c = absurd c.in_err-tail-2.ensures

pub loop-e-preserved : goal.loop-e-preserved
loop-e-preserved c = queued_next _ _ _ _ c.in_ok-tail.was _ _ _ c.loop-e.invariant c.loop-e-test.true _ _ c.in_ok-tail-2.ensures

pub returns : goal.returns
returns c = queued_whole _ _ _ _ c.in_ok-tail.was _ _ _ c.loop-e.invariant (omega arith)
