use Rattle.begin_run.proofs.begin.Goals as goal

pub returns-in-Ok : goal.returns-in-Ok
returns-in-Ok c = rw c.open_run.ensures (c.in-Ok.ensures _)

pub returns-in-Err : goal.returns-in-Err
returns-in-Err c = c.in-Err.ensures _
