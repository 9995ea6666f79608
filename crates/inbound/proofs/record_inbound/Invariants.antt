use Rattle.inbound.proofs.Recording.{Recording}
use Rattle.inbound.proofs.record_inbound.Given as goal

abbrev pub invariant-loop-i : goal.invariant-loop-i
invariant-loop-i l = Recording l.edges l.count l.n l.initial.processes l.i l.processes
