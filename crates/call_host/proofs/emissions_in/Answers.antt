use borrow.Author.Rules.{rules}
use native.Mathlib.Omega.{arith}
use Rattle.call_host.proofs.Filling.{filling_none, filling_more}
use Rattle.call_host.proofs.emissions_in.Goals as goal

pub loop-i-init : goal.loop-i-init
loop-i-init c = filling_none _ _ (search rules)

pub loop-i-preserved : goal.loop-i-preserved
loop-i-preserved c = filling_more _ _ _ _ (omega (arith, c.requires.0, c.loop-i-test.true)) c.emission_in.ensures c.loop-i.invariant
