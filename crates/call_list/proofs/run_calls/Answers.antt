use borrow.Author.Rules.{rules}
use native.Mathlib.Omega.{arith}
use Rattle.call_list.proofs.Running.{running_start, running_more, running_end, behind}
use Rattle.call_list.proofs.run_calls.Goals as goal

pub loop-count-init : goal.loop-count-init
loop-count-init c = search running_start depth 1

pub overflow_add-at : goal.overflow_add-at
overflow_add-at c =
    search (behind _ _ _ _ _ _ _ _ _ _ _ _ _ _ c.loop-count.invariant _ c.in-Some.ensures, rules)

pub loop-count-smaller : goal.loop-count-smaller
loop-count-smaller c =
    omega (arith, behind _ _ _ _ _ _ _ _ _ _ _ _ _ _ c.loop-count.invariant _ c.in-Some.ensures, c.in-Some.ensures)

pub loop-count-preserved : goal.loop-count-preserved
loop-count-preserved c =
    search (running_more _ _ _ _ _ _ _ _ _ _ _ _ _ _ c.loop-count.invariant _ c.in-Some.ensures) depth 1

pub returns : goal.returns
returns c = running_end _ _ _ _ _ _ _ _ _ _ _ _ _ _ c.loop-count.invariant c.in_default.ensures
