use borrow.Author.Rules.{rules}
use Rattle.foreign.proofs.Chain.{stops, goes_on, ends, answered}
use Rattle.foreign.proofs.invalid_header.Goals as goal

pub returns-then-invalid_size : goal.returns-then-invalid_size
returns-then-invalid_size c = search (stops, answered) depth 2

pub returns-then-over_limit : goal.returns-then-over_limit
returns-then-over_limit c = search (stops, goes_on, answered, rules)

pub returns : goal.returns
returns c = search (goes_on, ends, answered, rules)
