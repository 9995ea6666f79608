use Rattle.call_host.proofs.Filling.{Filling}
use Rattle.call_host.proofs.emissions_in.Given as goal

abbrev pub invariant-loop-i : goal.invariant-loop-i
invariant-loop-i l = Filling l.reply l.i l.emissions
