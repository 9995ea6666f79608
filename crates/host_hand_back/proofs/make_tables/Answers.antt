use borrow.Author.Rules.{rules}
use native.Mathlib.Omega.{arith}
use Rattle.std.proofs.lemmas.Result.{err_from_is_err_and}
use Rattle.host_hand_back.proofs.Opening.{cleared_length, can_find, tabled}
use Rattle.host_hand_back.proofs.make_tables.Goals as goal

pub returns-in_err-start : goal.returns-in_err-start
returns-in_err-start c =
    let p = err_from_is_err_and c.from_residual.result c.from_residual.ensures.1 in
    rw (p.1, p.2) c.in_err-start.ensures

pub find_lookaheads-requires : goal.find_lookaheads-requires
find_lookaheads-requires c = can_find c.args.head _ _ c.requires.0 _ c.requires.3

pub fill-requires : goal.fill-requires
fill-requires c = (omega (arith, cleared_length _ c.requires.3), search rules, c.requires.1, c.requires.2)

pub returns : goal.returns
returns c =
    tabled c.args.head _ _ _ c.args.mask _ _ c.in_ok-start.ensures _ (omega (arith, cleared_length _ c.requires.3, c.find_lookaheads.auto.table)) c.requires.1 c.requires.2 _ c.fill.ensures c.find_lookaheads.ensures
