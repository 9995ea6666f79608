use Rattle.plan_reader.proofs.header.Goals as goal
-- `plan_reader::header` meets its contract.
use Rattle.plan_reader.proofs.Headers.{header_read}

pub returns : goal.returns
returns c = header_read _ _ c.read.ensures c.duration_at.ensures c.tick_at.ensures c.read-2.ensures
