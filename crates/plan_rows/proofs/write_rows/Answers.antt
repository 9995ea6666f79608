use native.Mathlib.Omega.{arith}
use Prim.Native.Nat.{◌+◌, ◌≤◌}
use mathlib.Core.Path.{refl}
use Rattle.plan_rows.proofs.Tables.{rows_none, rows_more, rows_few}
use Rattle.plan_rows.proofs.write_rows.Goals as goal

pub loop-q-init : goal.loop-q-init
loop-q-init c =
    let e = c.args in
    (omega arith, rows_none e.n e.table.now e.sources.now e.counts.now)

pub loop-q-preserved : goal.loop-q-preserved
loop-q-preserved c =
    let e = c.args in
    let l = c.loop-q in
    let p = c.put_row-r in
    let m : p.result ≤ l.r + 1 = rows_few e.n e.table.now e.sources.now e.counts.now l.sources l.counts l.q l.r l.invariant.1 _ _ _ p.result p.ensures in
    (omega arith, rows_more e.n e.table.now e.sources.now e.counts.now l.sources l.counts l.q l.r l.invariant.1 _ _ _ p.result refl p.ensures)
