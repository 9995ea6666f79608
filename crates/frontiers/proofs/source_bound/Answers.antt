use Rattle.frontiers.proofs.RaisingBounds.{found_before, found_anew}
use Rattle.frontiers.proofs.source_bound.Goals as goal

pub returns-then-edges-i-3 : goal.returns-then-edges-i-3
returns-then-edges-i-3 c = search found_before depth 1

pub returns : goal.returns
returns c = search found_anew depth 1
