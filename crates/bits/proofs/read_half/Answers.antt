use Rattle.bits.proofs.read_half.Goals as goal
-- `bits::read_half` meets its contract.
use native.Mathlib.Omega.{arith}
use Rattle.bits.proofs.Words.{within, no_bits}

pub returns-then-w-eq0 : goal.returns-then-w-eq0
returns-then-w-eq0 c =
    no_bits c.args.w _ c.if-w-eq0.true

pub returns : goal.returns
returns c =
    within c.args.s.now c.args.at c.args.w _ (omega arith) (omega arith) (omega arith) c.word_at.ensures
