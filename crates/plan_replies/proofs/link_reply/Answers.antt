use Rattle.plan_replies.proofs.link_reply.Goals as goal
-- `plan_replies::link_reply` meets its contract.
use native.Mathlib.Omega.{arith}
use lib.ListN.{length-set}
use Rattle.plan_replies.proofs.Linking.{words_there, linked}

-- src/lib.rt:37:19
pub read-process-requires : goal.read-process-requires
read-process-requires c = let w = words_there _ _ _ c.requires in (omega arith, w.inside, w.room)

-- src/lib.rt:38:25
pub offset_bounds-table-process : goal.offset_bounds-table-process
offset_bounds-table-process c = let w = words_there _ _ _ c.requires in let v = w.small _ c.read-process.ensures in omega (arith, v, w.words)

-- src/lib.rt:38:25
pub bounds-table-process : goal.bounds-table-process
bounds-table-process c = let w = words_there _ _ _ c.requires in let v = w.small _ c.read-process.ensures in omega (arith, v, w.words)

-- src/lib.rt:39:5
pub offset_bounds-table-process-2 : goal.offset_bounds-table-process-2
offset_bounds-table-process-2 c = let w = words_there _ _ _ c.requires in let v = w.small _ c.read-process.ensures in omega (arith, v, w.words)

-- src/lib.rt:39:5
pub bounds-table-process-2 : goal.bounds-table-process-2
bounds-table-process-2 c = let w = words_there _ _ _ c.requires in let v = w.small _ c.read-process.ensures in rw length-set (omega (arith, v, w.words))

-- src/lib.rt:33:1
pub returns : goal.returns
returns c = let w = words_there _ _ _ c.requires in linked _ _ _ _ c.read-process.ensures (w.small _ c.read-process.ensures)
