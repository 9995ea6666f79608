use Rattle.build_edges.proofs.Behind.{written_none, row_more, row_end}
use borrow.Author.Rules.{rules}
use Rattle.build_edges.proofs.write_row.Goals as goal

pub loop-i-init : goal.loop-i-init
loop-i-init c = search (written_none, rules)

pub loop-i-preserved : goal.loop-i-preserved
loop-i-preserved c =
    row_more _ _ _ _ c.requires.0 _ _ _ _ _ c.loop-i-test.true c.duration_in-lookahead.ensures c.loop-i.invariant c.put_edge.ensures

pub returns : goal.returns
returns c = search row_end depth 1
