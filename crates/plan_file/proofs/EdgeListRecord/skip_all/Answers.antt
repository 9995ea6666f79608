use Rattle.plan_file.proofs.EdgeListRecord.skip_all.Goals as goal
-- `skip_all` of edges meets its contract.
use Rattle.std.proofs.Common.{List, Bool, drop, arith, length-drop, ◌≡◌, ◌*◌, ◌<◌, length}
use Rattle.bits.specs.Bytes.{stream}
use Rattle.bits.proofs.Streams.{length_stream}
use Rattle.plan_file.specs.Walked.{skipped}
use Rattle.plan_file.proofs.Rests.{rest_edges}
use Rattle.plan_file.proofs.Steps.{skip_capped}

pub returns : goal.returns
returns c =
    let x : List Bool = drop c.args.at (stream c.args.s.now) in
    let h : length x < 18446744073709551615 = rw (length-drop, length_stream) (omega arith) in
    let e : skipped c.saturating_mul.result x ≡ skipped (c.args.n * 140) x = rw c.saturating_mul.ensures (skip_capped (c.args.n * 140) 18446744073709551615 x h) in
    rw (rest_edges c.args.n x) (rw e at c.skip.ensures)
