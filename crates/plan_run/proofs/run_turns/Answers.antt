use Rattle.plan_run.proofs.run_turns.Goals as goal
-- `plan_run::run_turns` meets its contract.
use Rattle.plan_run.proofs.Running.{steps, nearer, ended}

pub take_turn-t-requires : goal.take_turn-t-requires
take_turn-t-requires c = steps _ _ _ _ _ _ _ _ _ c.loop-edges.invariant _ c.goes_on.ensures c.loop-edges-test.true

pub loop-edges-smaller : goal.loop-edges-smaller
loop-edges-smaller c = nearer _ _ _ _ _ _ _ _ _ c.loop-edges.invariant _ c.goes_on.ensures c.loop-edges-test.true _ _ _ _ _ _ _ _ c.take_turn-t.ensures

pub returns : goal.returns
returns c = ended _ _ _ _ _ _ _ _ _ c.loop-edges.invariant _ c.goes_on.ensures c.loop-edges-test.false
