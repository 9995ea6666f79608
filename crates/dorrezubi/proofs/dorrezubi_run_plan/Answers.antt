use Rattle.dorrezubi.proofs.dorrezubi_run_plan.Goals as goal
-- `dorrezubi::dorrezubi_run_plan` meets its contract.
use Rattle.dorrezubi.proofs.Exporting.{checked, exports}

pub rehearse-requires : goal.rehearse-requires
rehearse-requires c = checked _ _ c.check_file.ensures _ c.in-Ok.is

pub returns-in-Ok : goal.returns-in-Ok
returns-in-Ok c = exports _ _ c.check_file.ensures _ c.in-Ok.is _ _ _ c.rehearse.ensures
