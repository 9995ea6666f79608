use borrow.Author.Rules.{rules}
use Rattle.inbound.proofs.Recording.{recording_start, recording_more}
use Rattle.edges.proofs.Pairs.{passing_start, passing_more, passing_stop, passing_end, destination_known}
use Rattle.edges.proofs.invalid_edges.Goals as goal

pub loop-i-init : goal.loop-i-init
loop-i-init c = (passing_start _ _ _, search recording_start depth 1)

pub returns-then-invalid_edge : goal.returns-then-invalid_edge
returns-then-invalid_edge c = search passing_stop depth 1

pub lower-requires : goal.lower-requires
lower-requires c = (search rules, search rules, search destination_known depth 1)

pub loop-i-preserved : goal.loop-i-preserved
loop-i-preserved c = (search passing_more depth 1, search recording_more depth 1)

pub returns : goal.returns
returns c = search passing_end depth 1
