use borrow.Author.Rules.{rules}
use Rattle.edges.proofs.Marks.{source_below, destination_below, meet_bad, meet_new}
use Rattle.edges.proofs.seen_or_mark.Goals as goal

pub has_route_in-requires : goal.has_route_in-requires
has_route_in-requires c =
    (search rules, source_below _ _ c.requires.2, destination_below _ _ c.requires.2)

pub returns-then-has_route_in : goal.returns-then-has_route_in
returns-then-has_route_in c = search meet_bad depth 1

pub returns : goal.returns
returns c = search meet_new depth 1
