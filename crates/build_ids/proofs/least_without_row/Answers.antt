use mathlib.Core.Path.{sym}
use Rattle.build_ids.proofs.RisingLists.{rowed_none, rowed_on, rowed_off, rowed_all}
use Rattle.build_ids.proofs.least_without_row.Goals as goal

pub loop-p-init : goal.loop-p-init
loop-p-init c = search rowed_none depth 1

pub returns-then-not-is_at : goal.returns-then-not-is_at
returns-then-not-is_at c = rowed_off _ _ _ c.loop-p-test.true (sym c.if-not-is_at.ensures) c.loop-p.invariant

pub loop-p-preserved : goal.loop-p-preserved
loop-p-preserved c = rowed_on _ _ _ c.loop-p-test.true (sym c.if-not-is_at.ensures) c.loop-p.invariant

pub returns : goal.returns
returns c = search rowed_all depth 1
