use borrow.Author.Rules.{rules}
use Rattle.call_list.proofs.Executing.{tag_there, begin_there, begin_set_up, initial_there, initial_set_up}
use Rattle.call_list.proofs.add_or_begin.Goals as goal

pub offset_bounds-words-at : goal.offset_bounds-words-at
offset_bounds-words-at c = search (tag_there, rules)

pub bounds-words-at : goal.bounds-words-at
bounds-words-at c = search tag_there depth 1

pub overflow_add-at : goal.overflow_add-at
overflow_add-at c =
    search (begin_there _ _ _ _ _ c.requires c.if-words-at-eq-BEGIN.true, rules)

pub tick_in-horizon-requires : goal.tick_in-horizon-requires
tick_in-horizon-requires c =
    search (begin_there _ _ _ _ _ c.requires c.if-words-at-eq-BEGIN.true, rules)

pub overflow_add-at-then-words-at-eq-BEGIN : goal.overflow_add-at-then-words-at-eq-BEGIN
overflow_add-at-then-words-at-eq-BEGIN c =
    search (begin_there _ _ _ _ _ c.requires c.if-words-at-eq-BEGIN.true, rules)

pub offset_bounds-words-at-then-words-at-eq-BEGIN : goal.offset_bounds-words-at-then-words-at-eq-BEGIN
offset_bounds-words-at-then-words-at-eq-BEGIN c =
    search (begin_there _ _ _ _ _ c.requires c.if-words-at-eq-BEGIN.true, rules)

pub bounds-words-at-then-words-at-eq-BEGIN : goal.bounds-words-at-then-words-at-eq-BEGIN
bounds-words-at-then-words-at-eq-BEGIN c =
    search (begin_there _ _ _ _ _ c.requires c.if-words-at-eq-BEGIN.true, rules)

pub returns-then-words-at-eq-BEGIN : goal.returns-then-words-at-eq-BEGIN
returns-then-words-at-eq-BEGIN c = search begin_set_up depth 1

pub overflow_add-at-2 : goal.overflow_add-at-2
overflow_add-at-2 c =
    search (initial_there _ _ _ _ _ c.requires c.if-words-at-eq-BEGIN.false, rules)

pub message_in-m-requires : goal.message_in-m-requires
message_in-m-requires c =
    search (initial_there _ _ _ _ _ c.requires c.if-words-at-eq-BEGIN.false, rules)

pub returns : goal.returns
returns c = search initial_set_up depth 1
