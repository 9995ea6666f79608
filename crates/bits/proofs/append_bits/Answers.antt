use Rattle.bits.proofs.append_bits.Goals as goal
-- `bits::append_bits` meets its contract.
use Rattle.bits.proofs.Room.{append_is, append_fits}

pub overflow_add-result : goal.overflow_add-result
overflow_add-result c = let a = c.args in record { fits = append_fits a.acc a.b a.r a.t c.requires.1 c.requires.3 }

pub returns : goal.returns
returns c = let a = c.args in append_is a.acc a.b a.r a.t c.requires.1 c.requires.3
