use Rattle.rules.proofs.Tests.{not_true}
use Rattle.step.proofs.Stepping.{poisoned, closed, held}
use Rattle.step.proofs.refusal.Goals as goal
use Rattle.step.proofs.refusal.Goals.{then-not-head-via-then-not-head, then-not-head-via-else-not-head+then-head-gt0}

pub returns-then-head : goal.returns-then-head
returns-then-head c = poisoned _ c.if-head.true

pub returns-then-not-head : goal.returns-then-not-head
returns-then-not-head c =
    elim c.then-not-head.branch [
      | then-not-head-via-then-not-head w ↦ closed _ c.if-head.false (not_true _ w.if-not-head.true)
      | then-not-head-via-else-not-head+then-head-gt0 w ↦ held _ c.if-head.false w.if-head-gt0.true
    ]
