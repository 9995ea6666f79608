use borrow.Author.Rules.{rules}
use Rattle.step.proofs.Stepping.{passed, step_batch, step_on, takeable, advanceable}
use Rattle.step.proofs.step.Goals as goal

pub returns-in-Err : goal.returns-in-Err
returns-in-Err c = c.in-Err.ensures.1 _ _ _ _ _ c.requires

pub hand_out-h-requires : goal.hand_out-h-requires
hand_out-h-requires c =
    takeable c.args.head _ _ _ _ c.requires (passed _ _ c.refusal.ensures c.in_default.not-Err).open_run

pub returns-then-h-gt0 : goal.returns-then-h-gt0
returns-then-h-gt0 c =
    rw c.batch_answer.ensures (step_batch c.args.head c.args.counters _ _ _ _ c.requires (passed _ _ c.refusal.ensures c.in_default.not-Err) _ _ _ c.hand_out-h.ensures c.if-h-gt0.true)

pub advance_or_refuse-requires : goal.advance_or_refuse-requires
advance_or_refuse-requires c =
    advanceable c.args.head _ _ _ _ c.requires _ _ c.hand_out-h.result (passed _ _ c.refusal.ensures c.in_default.not-Err).open_run c.hand_out-h.ensures c.if-h-gt0.false (search rules)

pub returns : goal.returns
returns c =
    step_on c.args.head c.args.counters _ _ _ _ c.requires (passed _ _ c.refusal.ensures c.in_default.not-Err) _ _ _ c.hand_out-h.ensures c.if-h-gt0.false _ _ c.advance_or_refuse.result c.advance_or_refuse.ensures
