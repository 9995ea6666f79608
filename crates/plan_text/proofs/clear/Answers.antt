use native.Mathlib.Omega.{arith}
use lib.ListN.{length}
use Rattle.words.proofs.Places.{cleared_part}
use Rattle.plan_text.proofs.clear.Goals as goal

pub returns : goal.returns
returns c = cleared_part c.args.from (length c.args.out.now) c.args.out.now _ c.requires (omega arith) (c.fill.ensures.after (λ y e. e))
