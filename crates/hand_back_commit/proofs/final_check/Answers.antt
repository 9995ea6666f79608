use Rattle.std.proofs.lemmas.Result.{err_from_is_err_and}
use Rattle.hand_back_commit.proofs.Ending.{last_refused, last_said}
use Rattle.hand_back_commit.proofs.final_check.Goals as goal

pub returns-in_err-a : goal.returns-in_err-a
returns-in_err-a c =
    let p = err_from_is_err_and c.from_residual.result c.from_residual.ensures.1 in
    rw (p.1, p.2) (last_refused c.args.a _ _ _ _ c.in_err-a.was)

pub returns : goal.returns
returns c = last_said c.args.a _ _ _ c.in_ok-a.was c.refusal.result c.refusal.ensures
