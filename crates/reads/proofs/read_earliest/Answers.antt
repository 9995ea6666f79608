use Rattle.reads.proofs.Answering.{of_earliest, refused, passed, earliest_is, can_pass}
use Rattle.reads.proofs.read_earliest.Goals as goal

pub returns-in_err-check : goal.returns-in_err-check
returns-in_err-check c = refused _ _ _ _ (of_earliest _ _) _ c.in_err-check.ensures _ c.from_residual.ensures.1

pub least_tick-earliest-requires : goal.least_tick-earliest-requires
least_tick-earliest-requires c = can_pass _ c.in_ok-check.ensures (search depth 2)

pub returns : goal.returns
returns c =
    passed _ _ _ _ (of_earliest _ _) c.in_ok-check.ensures _ (earliest_is c.args.state _ _ c.least_tick-earliest.ensures c.largest-largest.ensures)
