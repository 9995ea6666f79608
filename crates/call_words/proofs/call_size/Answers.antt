use native.Mathlib.Omega.{arith}
use Rattle.call_words.proofs.Decoding.{size_past, size_0, size_1, size_2, size_3, size_other}
use Rattle.call_words.proofs.call_size.Goals as goal

pub returns-then-words-at : goal.returns-then-words-at
returns-then-words-at c = search size_past depth 1

pub returns-in-0 : goal.returns-in-0
returns-in-0 c = size_0 _ _ _ c.in-0.is c.complete_size.ensures

pub returns-in-1 : goal.returns-in-1
returns-in-1 c = size_1 _ _ _ c.in-1.is c.complete_size-in-1.ensures

pub returns-in-2 : goal.returns-in-2
returns-in-2 c = (omega arith, size_2 _ _ c.in-2.is c.if-words-at.false)

pub returns-in-3 : goal.returns-in-3
returns-in-3 c = size_3 _ _ _ c.in-3.is c.hand_back_size.ensures

pub returns-in_default : goal.returns-in_default
returns-in_default c = search size_other depth 1
