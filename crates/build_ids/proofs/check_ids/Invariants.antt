use Rattle.build_ids.proofs.RisingLists.{Met}
use Rattle.build_ids.proofs.check_ids.Given as goal

abbrev pub invariant-loop-id : goal.invariant-loop-id
invariant-loop-id l = Met l.n l.ids l.missing l.at l.id
