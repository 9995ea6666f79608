use Rattle.records.proofs.Passes.{Seeking}
use Rattle.foreign.specs.Tests.{differs_at}
use Rattle.foreign.proofs.Compared.{each}
use Rattle.foreign.proofs.wrong_record.Given as goal

abbrev pub invariant-loop-p : goal.invariant-loop-p
invariant-loop-p l = Seeking (differs_at l.processes l.made) each l.n l.p
