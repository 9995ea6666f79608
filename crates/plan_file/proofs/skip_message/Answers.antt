use Rattle.plan_file.proofs.skip_message.Goals as goal
-- `plan_file::skip_message` meets its contract.
use Prim.Native.Nat.{◌+◌, ◌^◌, ◌<◌}
use native.Mathlib.Omega.{arith}
use lib.ListN.{drop}
use Rattle.bits.specs.Bytes.{stream}
use Rattle.bits.proofs.Fields.{value_take}
use Rattle.bits.proofs.Streams.{length_stream}
use Rattle.plan_file.proofs.Steps.{lead_short, lead_on}
use Rattle.plan_file.proofs.Rests.{rest_message}

pub returns-then-s-at-lt145 : goal.returns-then-s-at-lt145
returns-then-s-at-lt145 c =
    let a = c.args in
    lead_short (stream a.s.now) a.at 140 5 (rw length_stream (omega arith)) _ _ (rest_message _) (rw length_stream (omega arith))

pub overflow_mul-bytes : goal.overflow_mul-bytes
overflow_mul-bytes c =
    let a = c.args in
    let h : c.read-bytes.result < 2 ^ 5 = rw c.read-bytes.ensures (value_take 5 (drop (a.at + 140) (stream a.s.now))) in
    omega arith

pub returns : goal.returns
returns c =
    let a = c.args in
    lead_on (stream a.s.now) a.at 140 5 (rw length_stream (omega arith)) _ _ (rest_message _) (rw length_stream (omega arith)) c.read-bytes.result c.read-bytes.ensures _ c.skip.ensures
