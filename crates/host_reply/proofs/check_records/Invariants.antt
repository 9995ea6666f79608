use Rattle.host_reply.proofs.Checking.{Here}
use Rattle.host_reply.proofs.check_records.Given as goal

abbrev pub invariant-loop-e : goal.invariant-loop-e
invariant-loop-e l = Here l.words l.head l.initial.a l.reply l.e-index l.a
