use mathlib.Core.Path.{refl}
use native.Mathlib.Omega.{arith}
use lib.ListN.{get_or}
use Rattle.plan_rows.proofs.Tables.{tally_few, tally_more}
use Rattle.plan_rows.proofs.tally.Goals as goal

pub overflow_add-table : goal.overflow_add-table
overflow_add-table c =
    let l = c.loop-source in
    omega (arith, tally_few c.args.from.now l.table l.source-index (omega arith) l.invariant (get_or c.args.from.now l.source-index 0) (c.requires.0 l.source-index))

pub loop-source-preserved : goal.loop-source-preserved
loop-source-preserved c =
    let l = c.loop-source in
    tally_more c.args.from.now l.table l.source-index (omega arith) l.invariant _ _ (c.requires.0 l.source-index) refl refl
