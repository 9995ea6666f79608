use Rattle.plan_rehearsal.proofs.refuse.Goals as goal
-- `plan_rehearsal::refuse` meets its contract.
use Rattle.plan_rehearsal.proofs.Rehearsing.{refusal_line}

pub returns : goal.returns
returns c = refusal_line _ _ _ _ _ _ _ c.build_number-number.ensures c.empty_header-head.ensures c.zero_counters-counters.ensures c.end_listing-fits.ensures c.number_for.ensures
