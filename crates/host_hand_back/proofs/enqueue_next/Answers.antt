use Rattle.host_hand_back.proofs.Passing.{not_enqueued, enqueue_asks, enqueued_next}
use Rattle.host_hand_back.proofs.enqueue_next.Goals as goal

pub returns-in_err-tail : goal.returns-in_err-tail
returns-in_err-tail c = not_enqueued _ c.args.tail c.args.e _ c.in_err-tail.was _ c.from_residual.ensures.1

pub enqueue-requires : goal.enqueue-requires
enqueue-requires c = enqueue_asks _ c.args.tail c.args.e _ c.in_ok-tail.was c.requires

pub returns : goal.returns
returns c = enqueued_next _ c.args.tail c.args.e _ c.in_ok-tail.was _ _ c.enqueue.ensures
