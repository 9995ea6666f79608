use Rattle.plan_replies.specs.Fills.{Fills}
use Rattle.records.specs.Records.{events_of}
use Rattle.plan_replies.proofs.fill_reply.Given as goal

abbrev pub invariant-loop-i : goal.invariant-loop-i
invariant-loop-i l = Fills l.s l.initial.table (events_of l.i l.batch) l.table l.reply l.emitted
