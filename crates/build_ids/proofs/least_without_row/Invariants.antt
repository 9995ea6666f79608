use Rattle.build_ids.proofs.RisingLists.{Rowed}
use Rattle.build_ids.proofs.least_without_row.Given as goal

abbrev pub invariant-loop-p : goal.invariant-loop-p
invariant-loop-p l = Rowed l.n l.sources l.p
