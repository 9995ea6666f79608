use native.Mathlib.Omega.{arith}
use Rattle.types.proofs.Halves.{ltb_below, ltb_above, ltb_lower}
use Rattle.types.proofs.Owned.{whole_time}
use Rattle.types.proofs.SimTime.lt.Goals as goal

pub returns-then-self-other : goal.returns-then-self-other
returns-then-self-other c =
    ltb_below _ _ _ _ (whole_time c.args.self _ c.well_formed.0) c.if-self-other.true

pub returns-then-other-self : goal.returns-then-other-self
returns-then-other-self c =
    ltb_above _ _ _ _ (whole_time c.args.other _ c.well_formed.1.0) c.if-other-self.true

pub returns : goal.returns
returns c = ltb_lower _ _ _ _ (omega arith)
