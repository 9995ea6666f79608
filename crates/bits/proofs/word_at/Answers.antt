use Rattle.bits.proofs.word_at.Goals as goal
-- `bits::word_at` meets its contract.
use Rattle.bits.proofs.Words.{word, word_fits}

pub overflow_add-result : goal.overflow_add-result
overflow_add-result c =
    record { fits = word_fits c.args.s.now c.args.i c.requires _ _ c.half_at-high.ensures c.half_at-low.ensures }

pub returns : goal.returns
returns c =
    word c.args.s.now c.args.i c.requires _ _ c.half_at-high.ensures c.half_at-low.ensures
