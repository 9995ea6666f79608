use Rattle.records.proofs.Passes.{seeking_start}
use Rattle.frontiers.proofs.Early.{late_passed, early_found, none_early}
use Rattle.frontiers.proofs.has_eligible_event.Goals as goal

pub loop-p-init : goal.loop-p-init
loop-p-init c = search seeking_start depth 1

pub returns-then-lt : goal.returns-then-lt
returns-then-lt c = search early_found depth 1

pub loop-p-preserved : goal.loop-p-preserved
loop-p-preserved c = search late_passed depth 1

pub returns : goal.returns
returns c = search none_early depth 1
