use mathlib.Core.Path.{◌≡◌}
use native.Mathlib.Omega.{arith}
use Rattle.plan_rows.proofs.Stored.{stored_more, stored_end}
use Rattle.plan_rows.proofs.read_lookaheads.Goals as goal

pub loop-i-preserved : goal.loop-i-preserved
loop-i-preserved c =
    let l = c.loop-i in
    stored_more _ l.i l.lookaheads _ _ _ (omega arith) c.after_zero.ensures c.duration_at-lookahead.ensures c.put_tick.ensures l.invariant

pub returns : goal.returns
returns c =
    let l = c.loop-i in
    let e : l.i ≡ c.args.count = omega arith in
    stored_end _ _ _ (omega arith) (rw e at l.invariant)
