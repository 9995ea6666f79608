use borrow.Author.Rules.{rules}
use Rattle.hand_back_edges.proofs.Finding.{finding_start, finding_asks, finding_more, finding_end}
use Rattle.hand_back_edges.proofs.find_edges.Goals as goal

pub loop-i-init : goal.loop-i-init
loop-i-init c = search finding_start depth 1

pub put_edge-requires : goal.put_edge-requires
put_edge-requires c =
    finding_asks _ c.args.count _ _ c.requires _ _ c.loop-i.invariant c.loop-i-test.true (search rules)

pub loop-i-preserved : goal.loop-i-preserved
loop-i-preserved c = search (finding_more, rules)

pub returns : goal.returns
returns c = search finding_end depth 1
