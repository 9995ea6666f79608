use native.Mathlib.Omega.{arith}
use Rattle.state.proofs.Queueing.{exhausted}
use Rattle.state.proofs.sequence_exhausted.Goals as goal

pub returns : goal.returns
returns c = exhausted c.args.next c.args.more (omega (arith, c.ranges.next))
