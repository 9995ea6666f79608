use Rattle.plan_run.proofs.add_initials.Goals as goal
-- `plan_run::add_initials` meets its contract.
use mathlib.Core.Path.{◌≡◌}
use native.Mathlib.Omega.{arith}
use borrow.Author.Rules.{rules}
use Rattle.plan_round.proofs.Answered.{refused_positive, accepted_zero}
use Rattle.plan_run.proofs.Opening.{can_add, event_there, adding_more, adding_refused, all_added}

pub loop-calls-init : goal.loop-calls-init
loop-calls-init c = c.requires.0

pub message_at-next-requires : goal.message_at-next-requires
message_at-next-requires c =
    let i = c.loop-calls.invariant in
    (i.short, event_there _ _ _ _ _ _ _ i (omega (arith, c.requires.1, c.loop-calls-test.true)))

pub add_initial-added-requires : goal.add_initial-added-requires
add_initial-added-requires c = can_add _ _ _ _ _ _ _ c.loop-calls.invariant

pub returns-then-is_err : goal.returns-then-is_err
returns-then-is_err c =
    adding_refused _ _ _ _ _ _ _ c.loop-calls.invariant (omega (arith, c.requires.1, c.loop-calls-test.true)) _ c.message_at-next.ensures _ _ (search rules) c.add_initial-added.ensures (refused_positive _ (search rules))

pub loop-calls-preserved : goal.loop-calls-preserved
loop-calls-preserved c =
    adding_more _ _ _ _ _ _ _ c.loop-calls.invariant (omega (arith, c.requires.1, c.loop-calls-test.true)) _ c.message_at-next.ensures _ _ (search rules) c.add_initial-added.ensures (accepted_zero _ (search rules))

pub returns : goal.returns
returns c =
    let e : c.loop-calls.calls ≡ c.args.count = omega arith in
    rw e at (all_added _ _ _ _ _ _ _ c.loop-calls.invariant (omega (arith, c.requires.1)))
