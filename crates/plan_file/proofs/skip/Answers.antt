use Rattle.plan_file.proofs.skip.Goals as goal
-- `plan_file::skip` meets its contract.
use native.Mathlib.Omega.{arith}
use Rattle.bits.specs.Bytes.{stream}
use Rattle.bits.proofs.Streams.{length_stream}
use Rattle.plan_file.proofs.Steps.{skip_at, skip_not}

pub returns-then-s-at : goal.returns-then-s-at
returns-then-s-at c = let a = c.args in skip_not (stream a.s.now) a.at a.w (rw length_stream (omega arith)) (rw length_stream (omega arith))

pub returns : goal.returns
returns c = let a = c.args in skip_at (stream a.s.now) a.at a.w (rw length_stream (omega arith)) (rw length_stream (omega arith))
