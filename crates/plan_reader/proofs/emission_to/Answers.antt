use Rattle.plan_reader.proofs.emission_to.Goals as goal
-- `plan_reader::emission_to` meets its contract.
use Rattle.plan_reader.proofs.Emissions.{written}

pub returns : goal.returns
returns c =
    written _ _ _ _ _ _ c.message_at-next.result c.message_at-next.ensures c.put_emission.ensures
