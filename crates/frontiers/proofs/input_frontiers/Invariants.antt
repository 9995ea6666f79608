use mathlib.Core.Path.{◌≡◌}
use lib.ListN.{length}
use Rattle.types.specs.Value.{ticks_of}
use Rattle.frontiers.proofs.ReadingFrontiers.{Reading}
use Rattle.frontiers.proofs.input_frontiers.Given as goal

abbrev pub invariant-loop-p : goal.invariant-loop-p
invariant-loop-p l = (length l.first ≡ 128) × Reading l.n (ticks_of l.top) l.processes l.initial.first l.p l.first
