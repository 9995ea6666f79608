use Rattle.bits.proofs.read.Goals as goal
-- `bits::read` meets its contract.
use native.Mathlib.Omega.{arith}
use Rattle.bits.proofs.Words.{two, two_fits}

pub overflow_add-result : goal.overflow_add-result
overflow_add-result c =
    record { fits = two_fits c.args.s.now c.args.at _ (omega arith) (omega arith) _ _ c.read_half-2.ensures c.read_half-3.ensures }

pub returns : goal.returns
returns c =
    two c.args.s.now c.args.at _ (omega arith) (omega arith) _ _ c.read_half-2.ensures c.read_half-3.ensures c.args.w (omega arith)
