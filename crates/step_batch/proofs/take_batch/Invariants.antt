use mathlib.Core.Path.{◌≡◌}
use lib.ListN.{length}
use Rattle.types.specs.Value.{ticks_of}
use Rattle.inbound.specs.Inbound.{frontier_in}
use Rattle.step_batch.proofs.Turns.{Scanning}
use Rattle.step_batch.proofs.take_batch.Given as goal

abbrev pub invariant-loop-i : goal.invariant-loop-i
invariant-loop-i l = (length l.pending ≡ 4096) × (length l.batch ≡ 512) × Scanning l.count (frontier_in l.processes (ticks_of l.top)) l.room l.initial.pending l.initial.batch l.pending l.batch l.s.kept l.s.taken l.s.room l.s.seen l.i
