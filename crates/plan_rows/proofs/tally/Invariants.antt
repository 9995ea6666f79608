use lib.ListN.{take}
use Rattle.plan_rows.specs.Rows.{Tallies}
use Rattle.plan_rows.proofs.tally.Given as goal

abbrev pub invariant-loop-source : goal.invariant-loop-source
invariant-loop-source l = Tallies (take l.source-index l.from) l.table
