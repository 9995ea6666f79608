use native.Mathlib.Omega.{arith}
use mathlib.Core.Path.{◌≡◌}
use lib.ListN.{length}
use Rattle.types.specs.Value.{ticks_of}
use Rattle.plan_text.proofs.Lines.{end_line_holds, append_line}
use borrow.Author.Rules.{rules}
use Rattle.plan_text.proofs.put_end.Goals as goal

pub returns : goal.returns
returns c =
    let e = c.args in
    let fifth = c.put_number-fifth in
    let fourth = c.put_number-fourth in
    let third = c.put_tick-third in
    let second = c.put_number-second in
    let first = c.put_word-first in
    let z : length first.new.line ≡ 100 = search rules in
    append_line first.new.line _ _ _ first.result 100 _ _ (omega arith)
    (end_line_holds _ _ _ _ _ first.new.line e.number (ticks_of e.gvt) e.rounds _ 100 fifth.result fourth.result third.result second.result first.result (omega arith) fifth.ensures.prepends fourth.ensures.prepends third.ensures.prepends second.ensures.prepends first.ensures)
    c.append.ensures
