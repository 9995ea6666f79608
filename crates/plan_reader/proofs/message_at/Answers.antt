use Rattle.plan_reader.proofs.message_at.Goals as goal
-- `plan_reader::message_at` meets its contract.
use native.Mathlib.Omega.{arith}
use Rattle.bits.specs.Bytes.{stream}
use Rattle.bits.proofs.Streams.{length_stream}
use Rattle.plan_reader.proofs.Messages.{message_room, message_read}

pub payload_at-payload-requires : goal.payload_at-payload-requires
payload_at-payload-requires c =
    let h = message_room c.args.s.now c.args.at c.requires.1 c.read-len.result c.read-len.ensures in
    omega arith

pub overflow_mul-result : goal.overflow_mul-result
overflow_mul-result c =
    let h = message_room c.args.s.now c.args.at c.requires.1 c.read-len.result c.read-len.ensures in
    omega arith

pub overflow_add-result-2 : goal.overflow_add-result-2
overflow_add-result-2 c =
    let h = message_room c.args.s.now c.args.at c.requires.1 c.read-len.result c.read-len.ensures in
    omega arith

pub returns : goal.returns
returns c =
    let h = message_room c.args.s.now c.args.at c.requires.1 c.read-len.result c.read-len.ensures in
    message_read (stream c.args.s.now) c.args.at c.read-len.result _ _ _ _ c.id_at.ensures c.id_at-2.ensures c.tick_at.ensures c.read-len.ensures c.payload_at-payload.ensures (rw length_stream h)
