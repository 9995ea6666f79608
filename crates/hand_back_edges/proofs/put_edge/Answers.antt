use Rattle.hand_back_edges.proofs.Finding.{row_free, put_one, put_none}
use Rattle.hand_back_edges.proofs.put_edge.Goals as goal

pub put_entry-requires : goal.put_entry-requires
put_entry-requires c =
    let free = row_free c.args.edges.now c.args.i _ c.args.table.now c.requires.3 c.requires.4 c.if-row-ne0.true in
    (free.0, free.1, c.requires.3, c.requires.1)

pub returns-then-row-ne0 : goal.returns-then-row-ne0
returns-then-row-ne0 c =
    put_one _ c.args.i _ _ c.requires.3 c.requires.4 c.if-row-ne0.true _ c.put_entry.ensures

pub returns-else-row-ne0 : goal.returns-else-row-ne0
returns-else-row-ne0 c = search put_none depth 1
