use borrow.Author.Rules.{rules}
use Rattle.inbound.proofs.Recording.{recording_start, recording_more, recording_end, destination_at}
use Rattle.inbound.proofs.record_inbound.Goals as goal

pub loop-i-init : goal.loop-i-init
loop-i-init c = search (recording_start, rules)

pub lower-requires : goal.lower-requires
lower-requires c = search (destination_at, rules)

pub loop-i-preserved : goal.loop-i-preserved
loop-i-preserved c = search recording_more depth 1

pub returns : goal.returns
returns c = search recording_end depth 1
