use Rattle.plan_run.proofs.end_listing.Goals as goal
-- `plan_run::end_listing` meets its contract.
use Rattle.plan_run.proofs.Running.{ends_with}

pub returns : goal.returns
returns c = ends_with _ _ c.args.head c.args.counters _ _ _ _ _ c.put_end-end.ensures c.finish.ensures
