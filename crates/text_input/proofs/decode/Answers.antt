use native.Mathlib.Omega.{arith}
use Rattle.text_input.proofs.Decoded.{storing_more, storing_end}
use Rattle.text_input.proofs.decode.Goals as goal

pub loop-i-preserved : goal.loop-i-preserved
loop-i-preserved c = let l = c.loop-i in storing_more _ l.i _ l.w _ _ (omega arith) c.word_at.ensures l.invariant

pub returns : goal.returns
returns c = storing_end _ c.loop-i.i _ _ _ (omega arith) (omega arith) c.loop-i.invariant
