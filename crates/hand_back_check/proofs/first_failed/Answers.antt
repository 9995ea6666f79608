use Rattle.hand_back_check.proofs.Failing.{failing_start, failing_here, failing_more, failing_end, owner}
use Rattle.hand_back_check.proofs.first_failed.Goals as goal

pub loop-i-init : goal.loop-i-init
loop-i-init c = search failing_start depth 1

pub failed-requires : goal.failed-requires
failed-requires c = search owner depth 1

pub returns-then-failed : goal.returns-then-failed
returns-then-failed c = search failing_here depth 1

pub loop-i-preserved : goal.loop-i-preserved
loop-i-preserved c = search failing_more depth 1

pub returns : goal.returns
returns c = search failing_end depth 1
