use Rattle.host_reply.proofs.Enqueueing.{Here}
use Rattle.host_reply.proofs.enqueue_records.Given as goal

abbrev pub invariant-loop-e : goal.invariant-loop-e
invariant-loop-e l = Here l.initial.words l.initial.tail l.reply l.e-index l.words l.tail
