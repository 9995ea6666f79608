use Rattle.plan_limit.proofs.least_lookahead.Goals as goal
-- `plan_limit::least_lookahead` meets its contract.
use Rattle.std.proofs.Common.{arith, rules, sym, ◌∙◌}
use Rattle.types.specs.Value.{ticks_of}
use Rattle.plan_limit.proofs.Leasts.{some_edge, least_first, least_more, least_end}

pub loop-i-init : goal.loop-i-init
loop-i-init c = least_first _ _ _ c.tick_in-least.ensures

pub loop-i-preserved : goal.loop-i-preserved
loop-i-preserved c = search (rules, least_more)

pub returns : goal.returns
returns c =
    let l = c.loop-i in
    c.from_ticks.ensures ∙ sym (least_end _ _ (ticks_of l.least) l.i (omega arith)) ∙ l.invariant ∙ some_edge _ _ _ (omega arith)
