use Prim.Native.Nat.{◌<◌}
use native.Mathlib.Omega.{arith}
use borrow.Author.Rules.{rules}
use Rattle.frontiers.proofs.ReadingFrontiers.{reading_start, reading_more, reading_end}
use Rattle.frontiers.proofs.input_frontiers.Goals as goal

pub loop-p-init : goal.loop-p-init
loop-p-init c = search (reading_start, rules)

pub loop-p-preserved : goal.loop-p-preserved
loop-p-preserved c = let h : 0 < c.loop-p.p = omega arith in search reading_more depth 1

pub returns : goal.returns
returns c = search reading_end depth 1
