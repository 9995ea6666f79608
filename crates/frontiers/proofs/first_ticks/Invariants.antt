use mathlib.Core.Path.{◌≡◌}
use lib.ListN.{length}
use Rattle.frontiers.proofs.Tables.{Noting}
use Rattle.frontiers.proofs.first_ticks.Given as goal

abbrev pub invariant-loop-i : goal.invariant-loop-i
invariant-loop-i l = (length l.first ≡ 128) × Noting l.pending l.count l.initial.first l.i l.first
