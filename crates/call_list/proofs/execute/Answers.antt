use borrow.Author.Rules.{rules}
use Rattle.call_words.proofs.Decoding.{inside}
use Rattle.call_list.proofs.Executing.{for_set_up, step_carried, back_there, back_carried}
use Rattle.call_list.proofs.execute.Goals as goal

pub offset_bounds-words-at : goal.offset_bounds-words-at
offset_bounds-words-at c = search (inside, rules)

pub bounds-words-at : goal.bounds-words-at
bounds-words-at c = search inside depth 1

pub execute_add_or_begin-requires : goal.execute_add_or_begin-requires
execute_add_or_begin-requires c = search for_set_up depth 1

pub returns-then-tag-lt-STEP : goal.returns-then-tag-lt-STEP
returns-then-tag-lt-STEP c =
    c.execute_add_or_begin.ensures _ _ c.requires.0

pub returns-then-tag-eq-STEP : goal.returns-then-tag-eq-STEP
returns-then-tag-eq-STEP c = search step_carried depth 1

pub overflow_add-mask : goal.overflow_add-mask
overflow_add-mask c =
    search (back_there _ _ c.requires.1 c.if-tag-lt-STEP.false c.if-tag-eq-STEP.false, rules)

pub offset_bounds-words-at-2 : goal.offset_bounds-words-at-2
offset_bounds-words-at-2 c =
    search (back_there _ _ c.requires.1 c.if-tag-lt-STEP.false c.if-tag-eq-STEP.false, rules)

pub bounds-words-at-2 : goal.bounds-words-at-2
bounds-words-at-2 c =
    search (back_there _ _ c.requires.1 c.if-tag-lt-STEP.false c.if-tag-eq-STEP.false, rules)

pub reply_in-reply-requires : goal.reply_in-reply-requires
reply_in-reply-requires c = search back_there depth 1

pub returns : goal.returns
returns c =
    back_carried _ _ c.requires.1 c.if-tag-lt-STEP.false c.if-tag-eq-STEP.false c.args.head c.args.counters _ _ _ _ _ c.hand_back.result _ _ _ c.reply_in-reply.ensures c.hand_back.ensures
