use borrow.Author.Rules.{rules}
use Rattle.reply_words.proofs.Passing.{scanning_start, scanning_rest, scanning_more, scanning_stop, scanning_end}
use Rattle.reply_words.proofs.failed_not_in_batch.Goals as goal

pub loop-p-init : goal.loop-p-init
loop-p-init c = search (scanning_start, rules)

pub returns-then-mask-p-eq0 : goal.returns-then-mask-p-eq0
returns-then-mask-p-eq0 c = search scanning_rest depth 1

pub returns-then-failed_without_event : goal.returns-then-failed_without_event
returns-then-failed_without_event c = search scanning_stop depth 1

pub loop-p-preserved : goal.loop-p-preserved
loop-p-preserved c = search (scanning_more, rules)

pub returns : goal.returns
returns c = search scanning_end depth 1
