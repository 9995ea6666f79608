use Rattle.inbound.proofs.Recording.{Recording}
use Rattle.edges.proofs.Pairs.{Passing}
use Rattle.edges.proofs.invalid_edges.Given as goal

abbrev pub invariant-loop-i : goal.invariant-loop-i
invariant-loop-i l = Passing l.edges l.count l.n l.i l.seen × Recording l.edges l.count l.n l.initial.made l.i l.made
