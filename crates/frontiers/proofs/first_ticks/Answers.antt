use borrow.Author.Rules.{rules}
use Rattle.frontiers.proofs.Tables.{noting_start, noting_more, noting_end}
use Rattle.frontiers.proofs.first_ticks.Goals as goal

pub loop-i-init : goal.loop-i-init
loop-i-init c = search (noting_start, rules)

pub loop-i-preserved : goal.loop-i-preserved
loop-i-preserved c = search noting_more depth 1

pub returns : goal.returns
returns c = search noting_end depth 1
