use native.Mathlib.Omega.{arith}
use Rattle.types.proofs.Owned.{whole_time}
use Rattle.plan_limit.proofs.Dividing.{in_pieces}
use Rattle.plan_limit.proofs.divide.Goals as goal

-- src/lib.rt:13:18
pub overflow_add-middle : goal.overflow_add-middle
overflow_add-middle c =
    let w = whole_time c.args.t _ c.well_formed.0 in
    omega (arith, w.lower)

-- src/lib.rt:10:1
pub returns : goal.returns
returns c = in_pieces _ _
