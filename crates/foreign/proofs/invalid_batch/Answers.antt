use Rattle.foreign.proofs.Chain.{stops, goes_on, ends, answered, inverted}
use Rattle.foreign.proofs.invalid_batch.Goals as goal

pub returns-then-invalid_events : goal.returns-then-invalid_events
returns-then-invalid_events c = search (stops, answered) depth 2

pub returns : goal.returns
returns c = search (goes_on, ends, answered, inverted) depth 2
