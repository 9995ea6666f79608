use Prim.Native.Nat.{◌<◌}
use native.Mathlib.Omega.{arith}
use borrow.Author.Rules.{rules}
use Rattle.frontiers.proofs.RaisingHorizons.{rising_start, rising_more, rising_end}
use Rattle.frontiers.proofs.raise_horizons.Goals as goal

pub loop-i-init : goal.loop-i-init
loop-i-init c = search (rising_start, rules)

pub loop-i-preserved : goal.loop-i-preserved
loop-i-preserved c = let h : 0 < c.loop-i.i = omega arith in (search rules, search rising_more depth 1)

pub returns : goal.returns
returns c = search rising_end depth 1
