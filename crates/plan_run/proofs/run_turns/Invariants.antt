use Prim.Native.Nat.{◌-◌}
use Rattle.plan_round.specs.Reached.{plan_of}
use Rattle.plan_round.specs.Turns.{Came}
use Rattle.plan_rules.specs.Run.{enough}
use Rattle.plan_run.proofs.run_turns.Given as goal

abbrev pub invariant-loop-edges : goal.invariant-loop-edges
invariant-loop-edges l = Came l.file l.t l.edges l.pending l.processes l.batch l.table l.reply l.listing

abbrev pub decreases-loop-edges : goal.decreases-loop-edges
decreases-loop-edges l = enough (plan_of l.file) - l.t.calls
