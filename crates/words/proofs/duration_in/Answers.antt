use Rattle.words.specs.Words.{tick_at}
use Rattle.words.proofs.duration_in.Goals as goal

pub returns : goal.returns
unfolding tick_at
returns c = c.from_ticks.ensures
