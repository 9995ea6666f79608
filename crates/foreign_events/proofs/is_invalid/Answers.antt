use Rattle.foreign_events.proofs.Clauses.{invalid_source, invalid_destination, invalid_length}
use Rattle.foreign_events.proofs.is_invalid.Goals as goal

pub returns-then-n-e : goal.returns-then-n-e
returns-then-n-e c = search invalid_source depth 1

pub returns-then-n-e-2 : goal.returns-then-n-e-2
returns-then-n-e-2 c = search invalid_destination depth 1

pub returns : goal.returns
returns c = search invalid_length depth 1
