use Rattle.rules.proofs.Tests.{not_true, not_false}
use Rattle.schedule_initial.proofs.Adding.{add_poisoned, add_closed, add_source, add_destination, add_unrouted}
use Rattle.schedule_initial.proofs.refusal.Goals as goal

pub returns-then-head : goal.returns-then-head
returns-then-head c = add_poisoned _ _ _ c.if-head.true

pub returns-then-not-head : goal.returns-then-not-head
returns-then-not-head c =
    add_closed _ _ _ c.if-head.false (not_true _ c.if-not-head.true)

pub returns-then-n-to_word : goal.returns-then-n-to_word
returns-then-n-to_word c =
    add_source _ _ _ c.if-head.false (not_false _ c.if-not-head.false) _ c.to_word.ensures c.if-n-to_word.true

pub returns-then-n-to_word-2 : goal.returns-then-n-to_word-2
returns-then-n-to_word-2 c =
    add_destination _ _ _ c.if-head.false (not_false _ c.if-not-head.false) _ c.to_word.ensures c.if-n-to_word.false _ c.to_word-2.ensures c.if-n-to_word-2.true

pub returns-then-not-has_route : goal.returns-then-not-has_route
returns-then-not-has_route c =
    add_unrouted _ _ _ c.if-head.false (not_false _ c.if-not-head.false) _ c.to_word.ensures c.if-n-to_word.false _ c.to_word-2.ensures c.if-n-to_word-2.false _ c.has_route.ensures (not_true _ c.if-not-has_route.true-raw)
