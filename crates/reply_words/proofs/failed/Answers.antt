use mathlib.Core.Path.{refl}
use Rattle.rules.specs.HandBack.{failed}
use Rattle.reply_words.proofs.failed.Goals as goal

pub returns : goal.returns
unfolding failed
returns c = refl
