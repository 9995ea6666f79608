use Rattle.plan_file.proofs.skip_reply.Goals as goal
-- `plan_file::skip_reply` meets its contract.
use native.Mathlib.Omega.{arith}
use Rattle.bits.specs.Bytes.{stream}
use Rattle.bits.proofs.Streams.{length_stream}
use Rattle.plan_file.proofs.Steps.{lead_short, lead_on}
use Rattle.plan_file.proofs.Rests.{rest_reply}

pub returns-then-s-at-lt16 : goal.returns-then-s-at-lt16
returns-then-s-at-lt16 c =
    let a = c.args in
    lead_short (stream a.s.now) a.at 6 10 (rw length_stream (omega arith)) _ _ (rest_reply _) (rw length_stream (omega arith))

pub returns : goal.returns
returns c =
    let a = c.args in
    lead_on (stream a.s.now) a.at 6 10 (rw length_stream (omega arith)) _ _ (rest_reply _) (rw length_stream (omega arith)) c.read-n.result c.read-n.ensures _ c.skip_all.ensures
