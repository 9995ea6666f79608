use mathlib.Core.Path.{◌≡◌}
use lib.ListN.{length}
use Rattle.reply_words.proofs.Table.{Placing}
use Rattle.reply_words.proofs.find_places.Given as goal

abbrev pub invariant-loop-i : goal.invariant-loop-i
invariant-loop-i l = (length l.places ≡ 64) × Placing l.batch l.count l.i l.places
