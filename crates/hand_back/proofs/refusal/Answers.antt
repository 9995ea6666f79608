use Rattle.hand_back.proofs.ReplyChecking.{early_12, early_25, early_none}
use Rattle.hand_back.proofs.refusal.Goals as goal

pub returns-then-head : goal.returns-then-head
returns-then-head c = early_12 _ c.if-head.true

pub returns-then-head-eq0 : goal.returns-then-head-eq0
returns-then-head-eq0 c = early_25 _ c.if-head.false c.if-head-eq0.true

pub returns : goal.returns
returns c = early_none _ c.if-head.false c.if-head-eq0.false
