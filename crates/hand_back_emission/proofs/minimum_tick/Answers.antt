use Rattle.hand_back_emission.proofs.Rows.{own_minimum, far_minimum}
use Rattle.hand_back_emission.proofs.minimum_tick.Goals as goal

pub returns-then-eq : goal.returns-then-eq
returns-then-eq c = search own_minimum depth 2

pub returns : goal.returns
returns c = search far_minimum depth 1
