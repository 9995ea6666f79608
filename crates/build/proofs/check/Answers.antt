use Rattle.std.proofs.lemmas.Result.{err_from_is_err_and}
use Rattle.build.proofs.Checking.{few, second_part, first_part}
use Rattle.build.proofs.check.Goals as goal

pub returns-in_err-check_processes : goal.returns-in_err-check_processes
returns-in_err-check_processes c =
    let p = err_from_is_err_and c.from_residual.result c.from_residual.ensures.1 in
    rw (p.1, p.2) (first_part _ _ _ _ c.check_processes.ensures _ _ _ _ _ c.in_err-check_processes.was)

pub check_topology-requires : goal.check_topology-requires
check_topology-requires c = few _ _ _ _ c.check_processes.ensures c.in_ok-check_processes.was

pub returns : goal.returns
returns c = second_part _ _ _ _ c.check_processes.ensures c.in_ok-check_processes.was _ _ _ _ _ c.check_topology.ensures
