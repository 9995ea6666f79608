use Rattle.plan_rehearsal.proofs.rehearse_setup.Goals as goal
-- `plan_rehearsal::rehearse_setup` meets its contract.
use mathlib.Core.Path.{sym, ◌∙◌}
use native.Mathlib.Omega.{arith}
use Rattle.plan_rules.proofs.Exports.{rehearsed_long}
use Rattle.plan_rehearsal.proofs.Rehearsing.{by_rehearsal, hands_zeros}
use Rattle.plan_rehearsal.proofs.Setting.{setup_refused, setup_accepted, long_is, all_cleared}

pub returns-in-Err : goal.returns-in-Err
returns-in-Err c = by_rehearsal _ _ _ _ _ (setup_refused _ _ _ _ _ _ _ _ c.requires _ c.check.ensures _ c.in-Err.is) c.refuse.ensures

pub least_lookahead-least-requires : goal.least_lookahead-least-requires
least_lookahead-least-requires c = let pre = c.requires in omega (arith, pre.two_each)

pub returns-then-too_long : goal.returns-then-too_long
returns-then-too_long c =
    let pre = c.requires in
    let a = setup_accepted _ _ _ _ _ _ _ _ pre _ c.check.ensures _ c.in_default.is in
    let long = long_is _ _ _ _ _ _ _ _ pre a _ pre.known.header_of.horizon _ c.least_lookahead-least.ensures _ c.too_long.ensures in
    by_rehearsal _ _ _ _ _ (rehearsed_long _ a (sym long ∙ c.if-too_long.true)) (hands_zeros _ _ (all_cleared c.args.listing.now _ c.clear.ensures))

pub rehearse_accepted-requires : goal.rehearse_accepted-requires
rehearse_accepted-requires c =
    let pre = c.requires in
    let a = setup_accepted _ _ _ _ _ _ _ _ pre _ c.check.ensures _ c.in_default.is in
    let long = long_is _ _ _ _ _ _ _ _ pre a _ pre.known.header_of.horizon _ c.least_lookahead-least.ensures _ c.too_long.ensures in
    record { ids = _; is_setup = pre; accepted = a; short_enough = sym long ∙ c.if-too_long.false }
