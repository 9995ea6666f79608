use borrow.Author.Rules.{rules}
use Rattle.schedule_initial.proofs.Adding.{ready}
use Rattle.schedule_initial.proofs.enqueue.Goals as goal

pub insert-requires : goal.insert-requires
insert-requires c =
    (search rules, rw c.record_of-r.ensures (ready c.args.head _ c.args.m c.requires.0))
