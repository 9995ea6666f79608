use Rattle.plan_rehearsal.proofs.rehearse_accepted.Goals as goal
-- `plan_rehearsal::rehearse_accepted` meets its contract.
use borrow.Author.Rules.{rules}
use Rattle.plan_rehearsal.proofs.Rehearsing.{ran_over}
use Rattle.plan_rehearsal.proofs.Setting.{can_initialize, can_find, built_is, begun, initial_at, repliable}

-- src/lib.rt:74:9
pub initialize-built-requires : goal.initialize-built-requires
initialize-built-requires c =
    let pre = c.requires in
    can_initialize _ _ _ _ _ _ _ _ pre.is_setup pre.accepted

-- src/lib.rt:83:5
pub find_replies-requires : goal.find_replies-requires
find_replies-requires c =
    let pre = c.requires in
    can_find _ _ pre.is_setup.known.checked

-- src/lib.rt:85:9
pub run_built-fits-requires : goal.run_built-fits-requires
run_built-fits-requires c =
    let pre = c.requires in
    let known = pre.is_setup.known in
    (built_is _ _ _ _ _ _ _ _ pre.is_setup pre.accepted _ _ _ (search (c.initialize-built.auto, rules)) (search (c.initialize-built.auto, rules)) c.initialize-built.ensures, begun _ _ _ known, initial_at _ _ known.checked, repliable _ _ known.checked pre.accepted pre.short_enough _ c.find_replies.ensures)

-- src/lib.rt:60:1
pub returns : goal.returns
returns c =
    let pre = c.requires in
    ran_over _ pre.accepted pre.short_enough _ _ _ _ c.run_built-fits.ensures c.number_for.ensures
