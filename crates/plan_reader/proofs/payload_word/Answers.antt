use Rattle.plan_reader.proofs.payload_word.Goals as goal
-- `plan_reader::payload_word` meets its contract.
use native.Mathlib.Omega.{arith}
use lib.ListN.{drop}
use Rattle.bits.specs.Bytes.{stream}
use Rattle.plan_reader.proofs.Values.{word_is, no_bytes}

pub returns-then-bytes-eq0 : goal.returns-then-bytes-eq0
returns-then-bytes-eq0 c =
    let a = c.args in
    no_bytes a.bytes _ c.if-bytes-eq0.true

pub returns : goal.returns
returns c =
    let a = c.args in
    word_is a.bytes (drop a.at (stream a.s.now)) _ (omega arith) c.read.ensures
