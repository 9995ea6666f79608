use mathlib.Core.Path.{◌≡◌}
use Rattle.types.specs.Value.{ticks_of}
use Rattle.words.specs.Words.{tick_of}
use Rattle.plan_limit.proofs.Leasts.{least_from}
use Rattle.plan_limit.proofs.least_lookahead.Given as goal

abbrev pub invariant-loop-i : goal.invariant-loop-i
invariant-loop-i l = (least_from l.lookaheads l.count (ticks_of l.least) l.i ≡ least_from l.lookaheads l.count (tick_of l.lookaheads 0) 1)
