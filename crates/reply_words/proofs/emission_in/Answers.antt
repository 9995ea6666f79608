use Rattle.reply_words.proofs.Reading.{emission_read}
use Rattle.reply_words.proofs.emission_in.Goals as goal

pub returns : goal.returns
returns c = search emission_read depth 1
