use Rattle.plan_run.specs.Opens.{Adding}
use Rattle.plan_run.proofs.add_initials.Given as goal

abbrev pub invariant-loop-calls : goal.invariant-loop-calls
invariant-loop-calls l = Adding l.file l.calls l.p l.head l.edges l.pending l.processes
