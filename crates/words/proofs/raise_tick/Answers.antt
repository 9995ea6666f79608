use borrow.Author.Rules.{rules}
use Rattle.words.proofs.Ticks.{lower_rises, lower_no_rise, upper_rises, upper_no_rise}
use Rattle.words.proofs.raise_tick.Goals as goal

pub returns-then-lo-t : goal.returns-then-lo-t
returns-then-lo-t c = search lower_rises depth 1

pub returns-then-t-hi : goal.returns-then-t-hi
returns-then-t-hi c = search lower_no_rise depth 1

pub returns-then-hi-t : goal.returns-then-hi-t
returns-then-hi-t c = search (upper_rises, rules)

pub returns : goal.returns
returns c = search (upper_no_rise, rules)
