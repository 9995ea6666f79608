use Rattle.plan_reader.proofs.payload_at.Goals as goal
-- `plan_reader::payload_at` meets its contract.
use native.Mathlib.Omega.{arith}
use Rattle.bits.specs.Bytes.{stream}
use Rattle.bits.proofs.Streams.{length_stream}
use Rattle.plan_reader.proofs.Values.{payload_read}

pub returns : goal.returns
returns c =
    let a = c.args in
    payload_read (stream a.s.now) a.at a.len _ _ _ _ (rw length_stream (omega arith)) c.min-first.ensures c.min-second.ensures c.payload_word.ensures c.payload_word-2.ensures
