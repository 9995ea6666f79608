use Rattle.std.proofs.lemmas.Result.{err_from_is_err_and}
use Rattle.build.proofs.Checking.{malformed, rows_orderly, rows_fitting, entry_missing, rows_passed, rows_refused}
use Rattle.build.proofs.check_topology.Goals as goal

pub returns-then-not-is_well_formed : goal.returns-then-not-is_well_formed
returns-then-not-is_well_formed c = search malformed depth 1

pub least_without_row-requires : goal.least_without_row-requires
least_without_row-requires c = search rows_orderly depth 1

pub check-requires : goal.check-requires
check-requires c = search rows_fitting depth 1

pub returns-in-Some : goal.returns-in-Some
returns-in-Some c = search entry_missing depth 1

pub returns-in_err-check : goal.returns-in_err-check
returns-in_err-check c =
    let p = err_from_is_err_and c.from_residual.result c.from_residual.ensures.1 in
    rw p.1 (rows_refused _ _ _ _ _ _ c.is_well_formed.ensures c.if-not-is_well_formed.false _ c.least_without_row.ensures c.in_default.is _ c.check.ensures _ _ c.in_err-check.was p.2)

pub returns : goal.returns
returns c = rows_passed _ _ _ _ _ _ c.is_well_formed.ensures c.if-not-is_well_formed.false _ c.least_without_row.ensures c.in_default.is _ c.check.ensures c.in_ok-check.was
