use Rattle.call_words.proofs.Decoding.{message_is}
use Rattle.call_words.proofs.message_in.Goals as goal

pub returns : goal.returns
returns c = search message_is depth 1
