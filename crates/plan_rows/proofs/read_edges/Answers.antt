use mathlib.Core.Path.{◌≡◌}
use mathlib.Core.List.{[]}
use native.Mathlib.Omega.{arith}
use Rattle.plan_rows.proofs.Edges.{reading_none, small, reading_more, reading_end}
use Rattle.plan_rows.proofs.read_edges.Goals as goal

pub loop-i-init : goal.loop-i-init
loop-i-init c = reading_none _ _ _

pub overflow_cast-sources : goal.overflow_cast-sources
overflow_cast-sources c = omega (arith, small _ c.loop-i.i c.read-e.result [] [] (omega arith) c.read-e.ensures)

pub loop-i-preserved : goal.loop-i-preserved
loop-i-preserved c =
    let l = c.loop-i in
    reading_more _ l.i c.read-e.result l.sources l.destinations (omega arith) c.read-e.ensures (omega arith) (omega arith) l.invariant

pub returns : goal.returns
returns c =
    let l = c.loop-i in
    let e : l.i ≡ c.args.count = omega arith in
    reading_end _ _ _ _ (omega arith) (rw e at l.invariant)
