use Rattle.plan_rehearsal.proofs.rehearse_rows.Goals as goal
-- `plan_rehearsal::rehearse_rows` meets its contract.
use borrow.Author.Rules.{rules}
use mathlib.Core.Path.{sym}
use lib.Seq.{length-take-le}
use Rattle.plan_rehearsal.proofs.Setting.{few_processes, rowable, is_setup}

-- src/lib.rt:144:9
pub put_rows-count-requires : goal.put_rows-count-requires
put_rows-count-requires c = rowable _ _ _ _ _ _ c.requires _ _ (search rules) (search rules)

-- src/lib.rt:149:9
pub slice_bounds-rehearse_setup-end : goal.slice_bounds-rehearse_setup-end
slice_bounds-rehearse_setup-end c = sym (length-take-le _ _ (search (few_processes _ _ _ _ _ _ c.requires, rules)))

-- src/lib.rt:150:9
pub slice_bounds-rows-end : goal.slice_bounds-rows-end
slice_bounds-rows-end c = sym (length-take-le _ _ (search (c.put_rows-count.ensures.few, rules)))

-- src/lib.rt:151:9
pub slice_bounds-rows-end-2 : goal.slice_bounds-rows-end-2
slice_bounds-rows-end-2 c = sym (length-take-le _ _ (search (c.put_rows-count.ensures.few, rules)))

-- src/lib.rt:145:5
pub rehearse_setup-requires : goal.rehearse_setup-requires
rehearse_setup-requires c =
    is_setup _ _ _ _ _ _ c.requires _ _ _ _ c.put_ids.ensures c.put_rows-count.ensures
