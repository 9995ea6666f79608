use Rattle.words.proofs.Places.{cleared_part}
use Rattle.words.proofs.clear.Goals as goal

pub returns : goal.returns
returns c = cleared_part c.args.from c.args.to c.args.w.now _ c.requires.0 c.requires.1 (c.fill.ensures.after (λ y e. e))
