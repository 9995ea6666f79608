use borrow.Author.Rules.{rules}
use Rattle.step_batch.proofs.Turns.{scanning_start, scanning_more, scanning_end, scannable_at}
use Rattle.step_batch.proofs.take_batch.Goals as goal

pub loop-i-init : goal.loop-i-init
loop-i-init c = (search rules, search rules, scanning_start _ _ _ _ _)

pub scan_event-s-requires : goal.scan_event-s-requires
scan_event-s-requires c = search scannable_at depth 1

pub loop-i-preserved : goal.loop-i-preserved
loop-i-preserved c = (search rules, search rules, search scanning_more depth 1)

pub returns : goal.returns
returns c = search scanning_end depth 1
