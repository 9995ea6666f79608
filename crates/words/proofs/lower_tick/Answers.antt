use borrow.Author.Rules.{rules}
use Rattle.words.proofs.Ticks.{lower_falls, lower_no_fall, upper_falls, upper_no_fall}
use Rattle.words.proofs.lower_tick.Goals as goal

pub returns-then-t-lo : goal.returns-then-t-lo
returns-then-t-lo c = search lower_falls depth 1

pub returns-else-t-lo : goal.returns-else-t-lo
returns-else-t-lo c = search lower_no_fall depth 1

pub returns-then-t-hi-2 : goal.returns-then-t-hi-2
returns-then-t-hi-2 c = search (upper_falls, rules)

pub returns-else-t-hi-2 : goal.returns-else-t-hi-2
returns-else-t-hi-2 c = search (upper_no_fall, rules)
