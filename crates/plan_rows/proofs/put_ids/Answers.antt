use mathlib.Core.Path.{sym, ◌∙◌}
use native.Mathlib.Omega.{arith}
use Rattle.plan_rows.proofs.Filling.{one_behind, up_more, up_none}
use Rattle.plan_rows.proofs.put_ids.Goals as goal

pub loop-i-init : goal.loop-i-init
loop-i-init c = sym up_none

pub loop-i-preserved : goal.loop-i-preserved
loop-i-preserved c =
    let l = c.loop-i in
    one_behind l.ids _ l.i l.i (omega arith) l.invariant ∙ sym (up_more l.i)
