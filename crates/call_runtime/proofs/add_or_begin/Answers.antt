use borrow.Author.Rules.{rules}
use Rattle.call_words.proofs.Decoding.{inside}
use Rattle.call_runtime.proofs.Executing.{begin_there, begin_executed, initial_there, initial_executed}
use Rattle.call_runtime.proofs.add_or_begin.Goals as goal

pub offset_bounds-words-at : goal.offset_bounds-words-at
offset_bounds-words-at g c = search (inside, rules)

pub bounds-words-at : goal.bounds-words-at
bounds-words-at g c = search inside depth 1

pub overflow_add-at : goal.overflow_add-at
overflow_add-at g c = search (begin_there _ _ c.requires.0 c.if-words-at-eq-BEGIN.true, rules)

pub tick_in-horizon-requires : goal.tick_in-horizon-requires
tick_in-horizon-requires g c = search (begin_there _ _ c.requires.0 c.if-words-at-eq-BEGIN.true, rules)

pub overflow_add-at-then-words-at-eq-BEGIN : goal.overflow_add-at-then-words-at-eq-BEGIN
overflow_add-at-then-words-at-eq-BEGIN g c =
    search (begin_there _ _ c.requires.0 c.if-words-at-eq-BEGIN.true, rules)

pub offset_bounds-words-at-then-words-at-eq-BEGIN : goal.offset_bounds-words-at-then-words-at-eq-BEGIN
offset_bounds-words-at-then-words-at-eq-BEGIN g c =
    search (begin_there _ _ c.requires.0 c.if-words-at-eq-BEGIN.true, rules)

pub bounds-words-at-then-words-at-eq-BEGIN : goal.bounds-words-at-then-words-at-eq-BEGIN
bounds-words-at-then-words-at-eq-BEGIN g c =
    search (begin_there _ _ c.requires.0 c.if-words-at-eq-BEGIN.true, rules)

pub returns-then-words-at-eq-BEGIN : goal.returns-then-words-at-eq-BEGIN
returns-then-words-at-eq-BEGIN g c =
    begin_executed _ _ c.requires.0 _ _ _ _ _ c.if-words-at-eq-BEGIN.true _ c.tick_in-horizon.ensures c.begin.ensures

pub overflow_add-at-2 : goal.overflow_add-at-2
overflow_add-at-2 g c = search (initial_there _ _ c.requires.0 c.requires.1 c.if-words-at-eq-BEGIN.false, rules)

pub message_in-m-requires : goal.message_in-m-requires
message_in-m-requires g c = search (initial_there _ _ c.requires.0 c.requires.1 c.if-words-at-eq-BEGIN.false, rules)

pub returns : goal.returns
returns g c =
    initial_executed _ _ c.requires.0 _ _ _ _ _ c.requires.1 c.if-words-at-eq-BEGIN.false _ c.message_in-m.ensures c.add_initial.ensures
