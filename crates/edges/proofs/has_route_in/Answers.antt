use Rattle.edges.proofs.Marks.{leads_self, leads_along}
use Rattle.edges.proofs.has_route_in.Goals as goal

pub returns-then-a-b : goal.returns-then-a-b
returns-then-a-b c = search leads_self depth 1

pub returns-else-a-b : goal.returns-else-a-b
returns-else-a-b c = search leads_along depth 1
