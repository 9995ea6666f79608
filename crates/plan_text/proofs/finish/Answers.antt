use native.Mathlib.Omega.{arith}
use Rattle.plan_text.proofs.Finished.{finishes_fits, finishes_full}
use Rattle.plan_text.proofs.finish.Goals as goal

pub returns-then-at-out : goal.returns-then-at-out
returns-then-at-out c = finishes_fits _ _ _ (omega arith) c.clear.ensures

pub returns : goal.returns
returns c = finishes_full _ _ _ (omega arith) c.clear-2.ensures
