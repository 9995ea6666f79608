use native.Mathlib.Omega.{arith}
use Rattle.bench_rounds.proofs.Calling.{behind}
use Rattle.bench_rounds.proofs.call_all.Goals as goal

pub overflow_add-at : goal.overflow_add-at
overflow_add-at c = let b = behind _ _ _ c.in-Some.ensures.1 c.in-Some.ensures.0 in search arith

pub loop-count-smaller : goal.loop-count-smaller
loop-count-smaller c = let b = behind _ _ _ c.in-Some.ensures.1 c.in-Some.ensures.0 in omega arith

pub loop-count-preserved : goal.loop-count-preserved
loop-count-preserved c = let b = behind _ _ _ c.in-Some.ensures.1 c.in-Some.ensures.0 in (omega arith, b)
