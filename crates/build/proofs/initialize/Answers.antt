use Rattle.build.proofs.Initializing.{few, table_words, edge_words, known, laid}
use Rattle.build.proofs.initialize.Goals as goal

pub record_inbound-requires : goal.record_inbound-requires
record_inbound-requires c = search (few, table_words, edge_words, known) depth 1

pub returns : goal.returns
returns c = rw c.empty_header.ensures (search laid depth 1)
