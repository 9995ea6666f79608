use borrow.Author.Rules.{rules}
use Rattle.edges.proofs.Pairs.{answer_low, met_unknown, met_without, met_known}
use Rattle.edges.proofs.invalid_edge.Goals as goal

pub returns-then-unknown_id_edge : goal.returns-then-unknown_id_edge
returns-then-unknown_id_edge c = search met_unknown depth 1

pub returns-then-without_lookahead : goal.returns-then-without_lookahead
returns-then-without_lookahead c = search met_without depth 1

pub seen_or_mark-requires : goal.seen_or_mark-requires
seen_or_mark-requires c = (search rules, search rules, search answer_low depth 1)

pub returns : goal.returns
returns c = search met_known depth 1
