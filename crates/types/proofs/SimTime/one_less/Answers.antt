use native.Mathlib.Omega.{arith}
use Rattle.types.proofs.Halves.{less_lower, less_borrow, less_none}
use Rattle.types.proofs.SimTime.one_less.Goals as goal

pub returns-then-self-gt0 : goal.returns-then-self-gt0
returns-then-self-gt0 c = less_lower _ _ c.if-self-gt0.true

pub returns-then-self-gt0-2 : goal.returns-then-self-gt0-2
returns-then-self-gt0-2 c = less_borrow _ _ (omega arith) c.if-self-gt0-2.true

pub returns : goal.returns
returns c = less_none _ _ (omega arith) (omega arith)
