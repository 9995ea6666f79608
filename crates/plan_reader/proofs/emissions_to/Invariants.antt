use Rattle.bits.specs.Bytes.{stream}
use Rattle.plan_reader.proofs.Replies.{Progress}
use Rattle.plan_reader.proofs.emissions_to.Given as goal

abbrev pub invariant-loop-i : goal.invariant-loop-i
invariant-loop-i l = Progress (stream l.s) l.at l.emitter l.initial.out l.from l.out l.p l.i
