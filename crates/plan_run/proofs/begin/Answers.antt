use Rattle.plan_run.proofs.begin.Goals as goal
-- `plan_run::begin` meets its contract.
use borrow.Author.Rules.{rules}
use Rattle.plan_round.proofs.Answered.{refused_positive, accepted_zero}
use Rattle.plan_run.proofs.Opening.{opened_run, not_opened}

pub returns-then-is_err : goal.returns-then-is_err
returns-then-is_err c = not_opened _ _ _ _ _ c.requires.0 (refused_positive _ (search rules))

pub returns : goal.returns
returns c = opened_run _ _ _ _ _ c.requires.0 (accepted_zero _ (search rules)) _ _ c.requires.1 _ c.begin-begun.ensures
