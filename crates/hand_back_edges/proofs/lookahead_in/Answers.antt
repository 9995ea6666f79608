use Rattle.hand_back_edges.proofs.Lookaheads.{told_past, told_beyond, told_pair}
use Rattle.hand_back_edges.proofs.lookahead_in.Goals as goal
use Rattle.hand_back_edges.proofs.lookahead_in.Goals.{then-from-ge-MAX_PROCESSES-via-then-from-ge-MAX_PROCESSES, then-from-ge-MAX_PROCESSES-via-else-from-ge-MAX_PROCESSES+then-to-ge-MAX_PROCESSES}

pub returns-then-from-ge-MAX_PROCESSES : goal.returns-then-from-ge-MAX_PROCESSES
returns-then-from-ge-MAX_PROCESSES c =
    elim c.then-from-ge-MAX_PROCESSES.branch [ then-from-ge-MAX_PROCESSES-via-then-from-ge-MAX_PROCESSES w ↦ told_past _ c.requires c.args.e _ c.to_word-from.ensures _ c.to_word-to.ensures w.if-from-ge-MAX_PROCESSES.true _ c.zero.ensures | then-from-ge-MAX_PROCESSES-via-else-from-ge-MAX_PROCESSES+then-to-ge-MAX_PROCESSES w ↦ told_beyond _ c.requires c.args.e _ c.to_word-from.ensures _ c.to_word-to.ensures w.if-to-ge-MAX_PROCESSES.true _ c.zero.ensures ]

pub returns : goal.returns
returns c =
    told_pair _ c.requires c.args.e _ c.to_word-from.ensures _ c.to_word-to.ensures c.if-to-ge-MAX_PROCESSES.false _ c.duration_in.ensures
