use Rattle.foreign.proofs.Compared.{ticks_differ}
use Rattle.foreign.proofs.wrong_tick.Goals as goal

pub returns : goal.returns
returns c = search ticks_differ depth 1
