use Rattle.plan_limit.proofs.Dividing.{no_division}
use mathlib.Core.Path.{ap, ◌∙◌}
use lib.Dec.{ltb}
use Rattle.plan_limit.proofs.too_long.Goals as goal

-- src/lib.rt:22:1
pub returns : goal.returns
returns c = no_division _ _ _ _ c.divide-longest.ensures (c.lt.ensures ∙ ap (ltb _) c.after_zero-given.ensures)
