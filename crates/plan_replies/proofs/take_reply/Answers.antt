use Rattle.plan_replies.proofs.take_reply.Goals as goal
-- `plan_replies::take_reply` meets its contract.
use native.Mathlib.Omega.{arith}
use mathlib.Core.Path.{refl, ◌∙◌}
use Rattle.types.proofs.Ids.{id_of_small}
use Rattle.plan_replies.proofs.Taking.{takes_nothing, link_inside, place_inside, can_write, takes_reply}

-- src/lib.rt:62:9
pub returns-then-link-eq0 : goal.returns-then-link-eq0
returns-then-link-eq0 c =
    let pre = c.requires in
    takes_nothing _ _ _ _ _ pre.1 c.if-link-eq0.true

-- src/lib.rt:64:25
pub overflow_mul-at : goal.overflow_mul-at
overflow_mul-at c =
    let pre = c.requires in
    let l = link_inside _ _ c.args.reply.now c.args.have _ pre.1 _ refl c.if-link-eq0.false _ _ pre.0.table in
    omega (arith, l, pre.0.table.words)

-- src/lib.rt:64:20
pub overflow_add-at : goal.overflow_add-at
overflow_add-at c =
    let pre = c.requires in
    let l = link_inside _ _ c.args.reply.now c.args.have _ pre.1 _ refl c.if-link-eq0.false _ _ pre.0.table in
    omega (arith, l, pre.0.table.words)

-- src/lib.rt:64:14
pub offset_bounds-table-link : goal.offset_bounds-table-link
offset_bounds-table-link c =
    let pre = c.requires in
    let l = link_inside _ _ c.args.reply.now c.args.have _ pre.1 _ refl c.if-link-eq0.false _ _ pre.0.table in
    omega (arith, l, pre.0.table.words)

-- src/lib.rt:64:14
pub bounds-table-link : goal.bounds-table-link
bounds-table-link c =
    let pre = c.requires in
    let l = link_inside _ _ c.args.reply.now c.args.have _ pre.1 _ refl c.if-link-eq0.false _ _ pre.0.table in
    omega (arith, l, pre.0.table.words)

-- src/lib.rt:65:33
pub overflow_mul-table : goal.overflow_mul-table
overflow_mul-table c =
    let pre = c.requires in
    let l = link_inside _ _ c.args.reply.now c.args.have _ pre.1 _ refl c.if-link-eq0.false _ _ pre.0.table in
    omega (arith, l, pre.0.table.words)

-- src/lib.rt:65:28
pub overflow_add-table : goal.overflow_add-table
overflow_add-table c =
    let pre = c.requires in
    let l = link_inside _ _ c.args.reply.now c.args.have _ pre.1 _ refl c.if-link-eq0.false _ _ pre.0.table in
    omega (arith, l, pre.0.table.words)

-- src/lib.rt:65:22
pub offset_bounds-table-link-2 : goal.offset_bounds-table-link-2
offset_bounds-table-link-2 c =
    let pre = c.requires in
    let l = link_inside _ _ c.args.reply.now c.args.have _ pre.1 _ refl c.if-link-eq0.false _ _ pre.0.table in
    omega (arith, l, pre.0.table.words)

-- src/lib.rt:65:22
pub bounds-table-link-2 : goal.bounds-table-link-2
bounds-table-link-2 c =
    let pre = c.requires in
    let l = link_inside _ _ c.args.reply.now c.args.have _ pre.1 _ refl c.if-link-eq0.false _ _ pre.0.table in
    omega (arith, l, pre.0.table.words)

-- src/lib.rt:66:34
pub overflow_add-at-2 : goal.overflow_add-at-2
overflow_add-at-2 c =
    let pre = c.requires in
    let l = place_inside _ _ c.args.reply.now c.args.have _ pre.1 _ refl c.if-link-eq0.false _ _ pre.0.table pre.0.short in
    omega (arith, l)

-- src/lib.rt:66:5
pub emissions_to-requires : goal.emissions_to-requires
emissions_to-requires c =
    let pre = c.requires in
    (pre.0.short, can_write _ _ c.args.reply.now _ _ pre.1 _ refl c.if-link-eq0.false _ _ pre.0.table pre.0.room)

-- src/lib.rt:56:1
pub returns : goal.returns
returns c =
    let pre = c.requires in
    takes_reply _ _ _ _ _ pre.1 _ refl c.if-link-eq0.false _ (c.from_word.ensures ∙ id_of_small _ (omega (arith, pre.1))) _ _ c.emissions_to.ensures
