use Rattle.step.proofs.WithoutBatch.{answered_up, answered_none}
use Rattle.step.proofs.answered.Goals as goal

pub returns-then-done : goal.returns-then-done
returns-then-done c = search answered_up depth 1

pub returns : goal.returns
returns c = search answered_none depth 1
