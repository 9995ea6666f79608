use Rattle.hand_back_emission.proofs.Rows.{mismatch, unknown, unrouted, timed, overflow}
use Rattle.hand_back_emission.proofs.check_emission.Goals as goal

pub returns-then-not-eq : goal.returns-then-not-eq
returns-then-not-eq c =
    mismatch c.args.head c.args.lookahead _ c.args.e c.args.time _ c.eq.ensures c.if-not-eq.true

pub returns-then-n-to_word : goal.returns-then-n-to_word
returns-then-n-to_word c =
    unknown c.args.head c.args.lookahead _ c.args.e c.args.time _ c.eq.ensures c.if-not-eq.false _ c.to_word.ensures c.if-n-to_word.true

pub returns-then-not-has_route : goal.returns-then-not-has_route
returns-then-not-has_route c =
    unrouted c.args.head c.args.lookahead _ c.args.e c.args.time _ c.eq.ensures c.if-not-eq.false _ c.to_word.ensures c.if-n-to_word.false _ c.has_route.ensures c.if-not-has_route.true

pub returns-in_default : goal.returns-in_default
returns-in_default c =
    overflow c.args.head c.args.lookahead _ c.args.e c.args.time _ c.eq.ensures c.if-not-eq.false _ c.to_word.ensures c.if-n-to_word.false _ c.has_route.ensures c.if-not-has_route.false c.minimum_tick.result c.minimum_tick.ensures c.in_default.is

pub returns : goal.returns
returns c =
    timed c.args.head c.args.lookahead _ c.args.e c.args.time _ c.eq.ensures c.if-not-eq.false _ c.to_word.ensures c.if-n-to_word.false _ c.has_route.ensures c.if-not-has_route.false c.minimum_tick.result c.minimum_tick.ensures _ c.in-Some.is c.check_tick.result c.check_tick.ensures
