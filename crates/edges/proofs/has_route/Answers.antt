use Rattle.records.proofs.Passes.{seeking_start, answer_passed, answer_found, seeking_end}
use Rattle.edges.proofs.Tested.{route_self, route_along}
use Rattle.edges.proofs.has_route.Goals as goal

pub returns-then-a-b : goal.returns-then-a-b
returns-then-a-b c = search route_self depth 1

pub loop-i-init : goal.loop-i-init
loop-i-init c = search seeking_start depth 1

pub returns-then-is_edge : goal.returns-then-is_edge
returns-then-is_edge c = search (route_along, answer_found) depth 2

pub loop-i-preserved : goal.loop-i-preserved
loop-i-preserved c = search answer_passed depth 1

pub returns : goal.returns
returns c = search (route_along, seeking_end) depth 2
