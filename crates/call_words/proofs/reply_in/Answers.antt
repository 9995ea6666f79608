use Rattle.call_words.proofs.Cutting.{reply_is}
use Rattle.call_words.proofs.reply_in.Goals as goal

pub returns : goal.returns
returns c = search reply_is depth 1
