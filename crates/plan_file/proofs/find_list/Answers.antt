use Rattle.plan_file.proofs.find_list.Goals as goal
-- `plan_file::find_list` meets its contract.
use Rattle.std.proofs.Common.{arith}
use Rattle.bits.specs.Bytes.{stream}
use Rattle.bits.proofs.Streams.{length_stream}
use Rattle.plan_file.proofs.Steps.{list_short, list_cut, list_on}

pub returns-then-s-at-lt10 : goal.returns-then-s-at-lt10
returns-then-s-at-lt10 g c =
    let a = c.args in
    list_short _ (stream a.s.now) a.at (rw length_stream (omega arith)) (rw length_stream (omega arith))

pub returns-in_err-next : goal.returns-in_err-next
returns-in_err-next g c =
    let a = c.args in
    rw c.from_residual.ensures (list_cut _ (stream a.s.now) a.at (rw length_stream (omega arith)) (rw length_stream (omega arith)) _ c.read-count.ensures c.skip_all.ensures c.in_err-next.was)

pub returns : goal.returns
returns g c =
    let a = c.args in
    list_on _ (stream a.s.now) a.at (rw length_stream (omega arith)) (rw length_stream (omega arith)) _ c.read-count.ensures c.skip_all.ensures _ c.in_ok-next.was
