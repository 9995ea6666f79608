use Rattle.std.proofs.lemmas.Result.{err_from_is_err_and}
use Rattle.hand_back.proofs.ReplyChecking.{checks_empty, can_review, checks_all, whole}
use Rattle.hand_back.proofs.check_reply.Goals as goal

pub returns-in_err-start : goal.returns-in_err-start
returns-in_err-start c =
    let p = err_from_is_err_and c.from_residual.result c.from_residual.ensures.1 in
    rw (p.1, p.2) (λ d Q. c.in_err-start.ensures d _ _ Q _)

pub returns-then-count-eq0 : goal.returns-then-count-eq0
returns-then-count-eq0 c = checks_empty c.args.lent.head _ _ _ c.args.mask _ _ c.in_ok-start.ensures c.args.reply.now c.if-count-eq0.true

pub review-requires : goal.review-requires
review-requires c =
    (can_review c.args.lent.head _ _ _ c.args.mask c.in_ok-start.start _ c.requires.0 c.requires.1 c.requires.2 c.in_ok-start.ensures, whole c.args.reply.now)

pub returns : goal.returns
returns c =
    checks_all c.args.lent.head _ _ _ c.args.mask c.in_ok-start.start _ c.requires.0 c.requires.1 c.requires.2 c.in_ok-start.ensures _ _ c.review.ensures
