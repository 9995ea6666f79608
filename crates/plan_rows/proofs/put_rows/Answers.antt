use Rattle.plan_rows.proofs.Tables.{tallies_none, rows_made}
use Rattle.plan_rows.proofs.put_rows.Goals as goal

pub tally-requires : goal.tally-requires
tally-requires c = (c.requires.below, tallies_none)

pub returns : goal.returns
returns c =
    rows_made c.args.n c.args.from.now c.tally.new.table _ _ _ _ _ c.requires c.tally.ensures c.write_rows.ensures
