use Rattle.build_topology.proofs.Decided.{stamped_none, stamped_all, stamped_unknown, stamped_self, stamped_twice, stamped_nought, stamped_new}
use Rattle.build_topology.proofs.check_row.Goals as goal

pub loop-i-init : goal.loop-i-init
loop-i-init c = search stamped_none depth 1

pub returns-then-n-d : goal.returns-then-n-d
returns-then-n-d c = search stamped_unknown depth 1

pub returns-then-eq : goal.returns-then-eq
returns-then-eq c = search stamped_self depth 1

pub returns-then-mark-stamp : goal.returns-then-mark-stamp
returns-then-mark-stamp c = search stamped_twice depth 1

pub returns-then-is_zero : goal.returns-then-is_zero
returns-then-is_zero c = search stamped_nought depth 1

pub loop-i-preserved : goal.loop-i-preserved
loop-i-preserved c = search stamped_new depth 1

pub returns : goal.returns
returns c = search stamped_all depth 1
