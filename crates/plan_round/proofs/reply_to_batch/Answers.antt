use Rattle.plan_round.proofs.reply_to_batch.Goals as goal
-- `plan_round::reply_to_batch` meets its contract.
use native.Mathlib.Omega.{arith}
use mathlib.Core.Path.{refl, sym}
use lib.Seq.{length-take-le}
use Rattle.hand_back_emission.proofs.InHand.{findable}
use borrow.Author.Rules.{rules}
use Rattle.plan_round.proofs.Onward.{few_calls}
use Rattle.plan_round.proofs.Replied.{can_reply, turned_back}

-- src/lib.rt:51:9
pub put_batch-listed-requires : goal.put_batch-listed-requires
put_batch-listed-requires c = (findable _ _ _ _ _ c.requires.reached.lent).0

-- src/lib.rt:52:9
pub fill_reply-emitted-requires : goal.fill_reply-emitted-requires
fill_reply-emitted-requires c =
    let pre = c.requires in
    let f = findable _ _ _ _ _ pre.reached.lent in
    (can_reply _ _ _ _ _ _ _ _ _ _ _ _ pre, f.0, f.1)

-- src/lib.rt:61:18
pub overflow_mul-emitted : goal.overflow_mul-emitted
overflow_mul-emitted c = search (c.fill_reply-emitted.ensures.result_in_bounds, c.fill_reply-emitted.auto, c.well_formed, rules)

-- src/lib.rt:61:9
pub slice_bounds-hand_back-end-2 : goal.slice_bounds-hand_back-end-2
slice_bounds-hand_back-end-2 c = sym (length-take-le _ _ c.fill_reply-emitted.ensures.result_in_bounds)

-- src/lib.rt:72:16
pub overflow_add-result : goal.overflow_add-result
overflow_add-result c =
    let pre = c.requires in
    omega (arith, few_calls _ _ _ _ _ _ _ _ pre.reached _ pre.next_is pre.replying.countable)

-- src/lib.rt:34:1
pub shape_of-listing : goal.shape_of-listing
shape_of-listing c = c.put_batch-listed.ensures.same

-- src/lib.rt:34:1
pub returns : goal.returns
returns c =
    turned_back _ _ _ _ _ _ _ _ _ _ _ _ c.requires _ _ c.put_batch-listed.ensures _ _ _ c.fill_reply-emitted.ensures.fills _ _ _ _ (search (c.hand_back-back.auto, rules)) (search (c.hand_back-back.auto, rules)) (search (c.hand_back-back.auto, rules)) (search (c.fill_reply-emitted.auto, rules)) _ refl c.fill_reply-emitted.ensures.result_in_bounds c.hand_back-back.ensures _ c.place_after.ensures
