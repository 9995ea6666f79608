use Rattle.call_list.proofs.Rehearsing.{startable, rehearsed}
use Rattle.call_list.proofs.rehearse.Goals as goal

pub rehearse_accepted-requires : goal.rehearse_accepted-requires
rehearse_accepted-requires c = search startable depth 1

pub returns-in-Ok : goal.returns-in-Ok
returns-in-Ok c = search rehearsed depth 1
