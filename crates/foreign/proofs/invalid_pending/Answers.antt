use borrow.Author.Rules.{rules}
use Rattle.foreign.proofs.Chain.{stops, goes_on, ends, answered, inverted}
use Rattle.foreign.proofs.invalid_pending.Goals as goal

pub returns-then-invalid_events : goal.returns-then-invalid_events
returns-then-invalid_events c = search (stops, answered) depth 2

pub returns-then-not-strictly_rising : goal.returns-then-not-strictly_rising
returns-then-not-strictly_rising c = search (stops, goes_on, answered, inverted, rules)

pub returns : goal.returns
returns c = search (goes_on, ends, answered, inverted, rules)
