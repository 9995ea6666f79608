use Rattle.hand_back_emission.proofs.Rows.{violation, straggler, in_time}
use Rattle.hand_back_emission.proofs.check_tick.Goals as goal

pub returns-then-lt : goal.returns-then-lt
returns-then-lt c = search violation depth 1

pub returns-then-lt-2 : goal.returns-then-lt-2
returns-then-lt-2 c =
    straggler _ c.args.e c.args.time _ _ c.lt.ensures c.if-lt.false _ c.to_word-to.ensures c.tick_in-local.result c.tick_in-local.ensures _ c.lt-2.ensures c.if-lt-2.true

pub returns : goal.returns
returns c = search in_time depth 1
