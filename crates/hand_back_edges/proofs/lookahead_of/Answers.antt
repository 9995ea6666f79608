use Rattle.hand_back_edges.proofs.Finding.{told_past, told_beyond, told_unplaced, row_there, told_none, edge_there, told_edge}
use Rattle.hand_back_edges.proofs.lookahead_of.Goals as goal
use Rattle.hand_back_edges.proofs.lookahead_of.Goals.{then-from-ge-MAX_PROCESSES-via-then-from-ge-MAX_PROCESSES, then-from-ge-MAX_PROCESSES-via-else-from-ge-MAX_PROCESSES+then-to-ge-MAX_PROCESSES}

pub returns-then-from-ge-MAX_PROCESSES : goal.returns-then-from-ge-MAX_PROCESSES
returns-then-from-ge-MAX_PROCESSES c =
    elim c.then-from-ge-MAX_PROCESSES.branch [ then-from-ge-MAX_PROCESSES-via-then-from-ge-MAX_PROCESSES w ↦ told_past _ _ _ c.requires c.args.e _ c.to_word-from.ensures _ c.to_word-to.ensures w.if-from-ge-MAX_PROCESSES.true _ c.zero.ensures | then-from-ge-MAX_PROCESSES-via-else-from-ge-MAX_PROCESSES+then-to-ge-MAX_PROCESSES w ↦ told_beyond _ _ _ c.requires c.args.e _ c.to_word-from.ensures _ c.to_word-to.ensures w.if-to-ge-MAX_PROCESSES.true _ c.zero.ensures ]

pub returns-then-row-eq0 : goal.returns-then-row-eq0
returns-then-row-eq0 c = search told_unplaced depth 1

pub entry_in-entry-requires : goal.entry_in-entry-requires
entry_in-entry-requires c =
    row_there _ _ _ c.requires c.args.e _ c.to_word-from.ensures _ c.to_word-to.ensures c.if-row-eq0.false c.if-to-ge-MAX_PROCESSES.false

pub returns-then-entry-eq0 : goal.returns-then-entry-eq0
returns-then-entry-eq0 c =
    told_none _ _ _ c.requires c.args.e _ c.to_word-from.ensures _ c.to_word-to.ensures c.if-row-eq0.false c.if-to-ge-MAX_PROCESSES.false _ c.entry_in-entry.ensures c.if-entry-eq0.true _ c.zero-then-entry-eq0.ensures

pub lookahead_at-requires : goal.lookahead_at-requires
lookahead_at-requires c =
    edge_there _ _ _ c.requires c.args.e _ c.to_word-from.ensures _ c.to_word-to.ensures c.if-row-eq0.false c.if-to-ge-MAX_PROCESSES.false _ c.entry_in-entry.ensures c.if-entry-eq0.false

pub returns : goal.returns
returns c =
    told_edge _ _ _ c.requires c.args.e _ c.to_word-from.ensures _ c.to_word-to.ensures c.if-row-eq0.false c.if-to-ge-MAX_PROCESSES.false _ c.entry_in-entry.ensures c.if-entry-eq0.false _ c.lookahead_at.ensures
