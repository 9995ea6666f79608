use borrow.Author.Rules.{rules}
use Rattle.call_words.proofs.Decoding.{inside}
use Rattle.call_runtime.proofs.Executing.{step_executed, back_there, back_executed}
use Rattle.call_runtime.proofs.execute.Goals as goal

pub offset_bounds-words-at : goal.offset_bounds-words-at
offset_bounds-words-at g c = search (inside, rules)

pub bounds-words-at : goal.bounds-words-at
bounds-words-at g c = search inside depth 1

pub returns-then-tag-eq-STEP : goal.returns-then-tag-eq-STEP
returns-then-tag-eq-STEP g c =
    step_executed _ _ c.requires _ _ _ _ _ c.if-tag-eq-STEP.true c.step.ensures

pub overflow_add-mask : goal.overflow_add-mask
overflow_add-mask g c = search (back_there _ _ c.requires c.if-tag-lt-STEP.false c.if-tag-eq-STEP.false, rules)

pub offset_bounds-words-at-2 : goal.offset_bounds-words-at-2
offset_bounds-words-at-2 g c = search (back_there _ _ c.requires c.if-tag-lt-STEP.false c.if-tag-eq-STEP.false, rules)

pub bounds-words-at-2 : goal.bounds-words-at-2
bounds-words-at-2 g c =
    search (back_there _ _ c.requires c.if-tag-lt-STEP.false c.if-tag-eq-STEP.false, rules)

pub reply_in-reply-requires : goal.reply_in-reply-requires
reply_in-reply-requires g c =
    back_there _ _ c.requires c.if-tag-lt-STEP.false c.if-tag-eq-STEP.false

pub returns : goal.returns
returns g c =
    back_executed _ _ c.requires _ _ _ _ _ c.if-tag-lt-STEP.false c.if-tag-eq-STEP.false _ c.reply_in-reply.ensures c.hand_back.ensures
