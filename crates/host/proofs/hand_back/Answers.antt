use Rattle.host_hand_back.proofs.Opening.{opens_begun}
use Rattle.host_hand_back.proofs.Closing.{admitted, closable, carries}
use Rattle.host.proofs.hand_back.Goals as goal

pub check_records-check-requires : goal.check_records-check-requires
check_records-check-requires c = opens_begun c.args.state c.args.mask _ _ c.open-opened.ensures

pub enqueue_records-queued-requires : goal.enqueue_records-queued-requires
enqueue_records-queued-requires c =
    admitted c.args.state c.args.mask _ c.args.reply.now c.open-opened.ensures _ c.check_records-check.ensures _ c.admit-admission.ensures

pub close-closed-requires : goal.close-closed-requires
close-closed-requires c =
    closable c.args.state c.args.mask _ c.args.reply.now c.open-opened.ensures _ c.check_records-check.ensures _ c.admit-admission.ensures _ _ c.enqueue_records-queued.ensures

pub returns : goal.returns
returns c =
    carries c.args.state c.args.counters.now c.args.mask _ c.args.reply.now _ _ _ _ _ c.open-opened.ensures c.check_records-check.ensures c.admit-admission.ensures c.enqueue_records-queued.ensures c.close-closed.ensures
