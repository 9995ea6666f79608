use Rattle.plan_file.proofs.EdgeListRecord.skip_one.Goals as goal
-- `skip_one` of an edge meets its contract.
use Rattle.std.proofs.Common.{drop}
use Rattle.bits.specs.Bytes.{stream}
use Rattle.plan_file.proofs.Rests.{fixed_edge}

pub returns : goal.returns
returns c = rw (fixed_edge (drop c.args.at (stream c.args.s.now))) c.skip.ensures
