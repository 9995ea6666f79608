use Rattle.reply_words.proofs.Passing.{Scanning}
use Rattle.reply_words.proofs.failed_not_in_batch.Given as goal

abbrev pub invariant-loop-p : goal.invariant-loop-p
invariant-loop-p l = Scanning l.mask l.places l.p
