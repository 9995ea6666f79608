use Rattle.reply_words.proofs.Passing.{failed_in, failed_out}
use Rattle.reply_words.proofs.failed_without_event.Goals as goal

pub returns-then-places-p-ne0 : goal.returns-then-places-p-ne0
returns-then-places-p-ne0 c = search failed_in depth 1

pub returns : goal.returns
returns c = search failed_out depth 1
