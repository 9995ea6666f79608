use Rattle.types.specs.Value.{ticks_of}
use Rattle.records.proofs.Passes.{Seeking}
use Rattle.frontiers.proofs.Early.{early}
use Rattle.frontiers.proofs.has_eligible_event.Given as goal

abbrev pub invariant-loop-p : goal.invariant-loop-p
invariant-loop-p l = Seeking (λ x. x) (early (ticks_of l.top) l.processes l.first) l.n l.p
