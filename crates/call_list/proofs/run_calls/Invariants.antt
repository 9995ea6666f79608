use Prim.Native.Nat.{◌-◌}
use lib.ListN.{length}
use Rattle.call_list.proofs.Running.{Running}
use Rattle.call_list.proofs.run_calls.Given as goal

abbrev pub invariant-loop-count : goal.invariant-loop-count
invariant-loop-count l =
    Running l.initial.head l.initial.edges l.initial.pending l.initial.processes l.initial.batch l.words l.calls l.at l.head l.counters l.edges l.pending l.processes l.batch

abbrev pub decreases-loop-count : goal.decreases-loop-count
decreases-loop-count l =
    length l.words - l.at
