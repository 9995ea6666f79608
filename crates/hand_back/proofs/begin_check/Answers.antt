use native.Mathlib.Omega.{arith}
use Rattle.std.proofs.lemmas.Result.{err_from_is_err_and}
use Rattle.reply_words.proofs.Table.{empty_length}
use Rattle.hand_back.proofs.ReplyChecking.{begins_unknown, begins_started}
use Rattle.hand_back.proofs.begin_check.Goals as goal

pub returns-in_err-refusal : goal.returns-in_err-refusal
returns-in_err-refusal c =
    let p = err_from_is_err_and c.from_residual.result c.from_residual.ensures.1 in
    rw (p.1, p.2) (λ d xs E Q Z l. c.in_err-refusal.ensures d c.args.mask xs E Q Z _ l)

pub failed_not_in_batch-requires : goal.failed_not_in_batch-requires
failed_not_in_batch-requires c =
    omega (arith, empty_length _ c.requires.3)

pub returns-then-failed_not_in_batch : goal.returns-then-failed_not_in_batch
returns-then-failed_not_in_batch c =
    begins_unknown c.args.head _ _ _ c.in_ok-refusal.ensures c.find_places.ensures _ c.failed_not_in_batch.ensures c.if-failed_not_in_batch.true

pub returns : goal.returns
returns c =
    begins_started _ _ _ _ c.in_ok-refusal.ensures c.find_places.ensures _ c.failed_not_in_batch.ensures c.if-failed_not_in_batch.false c.first_failed-failed.result c.first_failed-failed.ensures c.start.result c.start.ensures (omega (arith, empty_length _ c.requires.3, c.find_places.auto.places))
