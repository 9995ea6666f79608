use Rattle.plan_round.proofs.take_turn.Goals as goal
-- `plan_round::take_turn` meets its contract.
use native.Mathlib.Omega.{arith}
use borrow.Author.Rules.{rules}
use Rattle.plan_round.proofs.Onward.{few_calls}
use Rattle.plan_round.proofs.Stepped.{holding, turned_step}

-- src/lib.rt:110:13
pub overflow_add-calls : goal.overflow_add-calls
overflow_add-calls c =
    let pre = c.requires in
    omega (arith, few_calls _ _ _ _ _ _ _ _ pre.reached _ pre.next_is pre.replying.countable)

-- src/lib.rt:98:9
pub reply_to_batch-requires : goal.reply_to_batch-requires
reply_to_batch-requires c =
    holding _ _ _ _ _ _ _ _ _ _ _ _ c.requires _ _ _ _ _ (search (c.step-stepped.auto, rules)) (search (c.step-stepped.auto, rules)) (search (c.step-stepped.auto, rules)) (search (c.step-stepped.auto, rules)) c.step-stepped.ensures (omega arith)

-- src/lib.rt:119:16
pub overflow_add-result : goal.overflow_add-result
overflow_add-result c =
    let pre = c.requires in
    omega (arith, few_calls _ _ _ _ _ _ _ _ pre.reached _ pre.next_is pre.replying.countable)

-- src/lib.rt:77:1
pub returns : goal.returns
returns c =
    turned_step _ _ _ _ _ _ _ _ _ _ _ _ c.requires _ _ _ _ _ (search (c.step-stepped.auto, rules)) (search (c.step-stepped.auto, rules)) (search (c.step-stepped.auto, rules)) (search (c.step-stepped.auto, rules)) c.step-stepped.ensures (omega arith)
