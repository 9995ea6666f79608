use borrow.Author.Rules.{rules}
use Rattle.hand_back_edges.proofs.Lookaheads.{telling_start, telling_asks, telling_more, telling_end}
use Rattle.hand_back_edges.proofs.find_lookaheads.Goals as goal

pub loop-i-init : goal.loop-i-init
loop-i-init c = search telling_start depth 1

pub put_lookahead-requires : goal.put_lookahead-requires
put_lookahead-requires c =
    telling_asks _ c.args.count _ c.requires _ _ c.loop-i.invariant c.loop-i-test.true (search rules)

pub loop-i-preserved : goal.loop-i-preserved
loop-i-preserved c = search (telling_more, rules)

pub returns : goal.returns
returns c = search telling_end depth 1
