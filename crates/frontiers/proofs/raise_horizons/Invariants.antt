use mathlib.Core.Path.{◌≡◌}
use lib.ListN.{length}
use Rattle.types.specs.Value.{ticks_of}
use Rattle.frontiers.proofs.RaisingHorizons.{Rising}
use Rattle.frontiers.proofs.raise_horizons.Given as goal

abbrev pub invariant-loop-i : goal.invariant-loop-i
invariant-loop-i l = (length l.processes ≡ 256) × Rising l.n l.first (ticks_of l.top) l.initial.processes l.i l.processes l.r
