use borrow.Author.Rules.{rules}
use Rattle.std.proofs.lemmas.Result.{err_from_is_err_and}
use Rattle.host_hand_back.proofs.Opening.{opens_foreign, opens_ready, opens_tabled}
use Rattle.host_hand_back.proofs.begin.Goals as goal

pub returns-in_err-check : goal.returns-in_err-check
returns-in_err-check c =
    let p = err_from_is_err_and c.from_residual.result c.from_residual.ensures.1 in
    rw (p.1, p.2) (opens_foreign _ _ _ c.in_err-check.ensures c.args.words.now)

pub make_tables-requires : goal.make_tables-requires
make_tables-requires c =
    (opens_ready c.args.state.now c.args.mask c.in_ok-check.ensures (search rules) (search rules) (search rules) (search rules), search rules, search rules, c.requires)

pub returns : goal.returns
returns c =
    opens_tabled c.args.state.now _ c.in_ok-check.ensures (search rules) (search rules) (search rules) (search rules) c.make_tables.result _ c.make_tables.ensures
