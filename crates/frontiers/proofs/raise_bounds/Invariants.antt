use mathlib.Core.Path.{◌≡◌}
use lib.ListN.{length}
use Rattle.types.specs.Value.{ticks_of}
use Rattle.frontiers.proofs.RaisingBounds.{Raising}
use Rattle.frontiers.proofs.raise_bounds.Given as goal

abbrev pub invariant-loop-i : goal.invariant-loop-i
invariant-loop-i l =
    (length l.edges ≡ length l.initial.edges) × (length l.processes ≡ 256) × Raising l.count l.n (ticks_of l.top) l.first l.initial.edges l.initial.processes l.i l.edges l.processes l.raised l.last
