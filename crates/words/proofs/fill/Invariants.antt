use mathlib.Core.Path.{◌≡◌}
use Rattle.words.proofs.Ticks.{filling}
use Rattle.words.proofs.fill.Given as goal

abbrev pub invariant-loop-i : goal.invariant-loop-i
invariant-loop-i l = filling l.i l.n l.t l.w ≡ filling 0 l.n l.t l.initial.w
