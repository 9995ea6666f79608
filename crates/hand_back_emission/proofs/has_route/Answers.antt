use Rattle.hand_back_emission.proofs.Rows.{to_itself, along_edge}
use Rattle.hand_back_emission.proofs.has_route.Goals as goal

pub returns-then-eq : goal.returns-then-eq
returns-then-eq c = to_itself c.args.e c.args.lookahead _ c.eq.ensures c.if-eq.true

pub returns-else-eq : goal.returns-else-eq
returns-else-eq c =
    along_edge c.args.e c.args.lookahead _ c.eq.ensures c.if-eq.false _ c.is_zero.ensures
