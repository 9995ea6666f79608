use native.Mathlib.Omega.{arith}
use mathlib.Core.Path.{◌≡◌}
use lib.ListN.{length}
use Rattle.types.specs.Value.{ticks_of}
use Rattle.plan_text.proofs.Lines.{event_line_holds, append_line}
use borrow.Author.Rules.{rules}
use Rattle.plan_text.proofs.put_event.Goals as goal

pub returns : goal.returns
returns c =
    let e = c.args in
    let third = c.put_number-third in
    let second = c.put_tick-second in
    let first = c.put_number-first in
    let z : length first.new.line ≡ 100 = search rules in
    append_line first.new.line _ _ _ first.result 100 _ _ (omega arith)
    (event_line_holds _ _ _ first.new.line e.process (ticks_of e.tick) e.source 100 third.result second.result first.result (omega arith) third.ensures.prepends second.ensures.prepends first.ensures.prepends)
    c.append.ensures
