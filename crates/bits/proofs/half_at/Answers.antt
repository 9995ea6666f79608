use Rattle.bits.proofs.half_at.Goals as goal
-- `bits::half_at` meets its contract.
use Rattle.std.proofs.Common.{ℕ, ◌<◌, get_or, arith}
use Rattle.bits.proofs.Words.{four_is}

pub returns : goal.returns
returns c =
    let each : (k : ℕ) → get_or c.args.s.now k 0 < 256 = λ k. (c.type_inv.s k).fits in
    omega (arith, four_is c.args.s.now c.args.i c.requires each)
