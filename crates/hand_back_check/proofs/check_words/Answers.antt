use Rattle.std.proofs.lemmas.Result.{err_from_is_err_and}
use Rattle.hand_back_edges.specs.Looks.{look_in_table}
use Rattle.hand_back_check.proofs.Checking.{checking_stopped, checking_start, checking_more, checking_ill}
use Rattle.hand_back_check.proofs.check_words.Goals as goal

pub returns-in_err-a : goal.returns-in_err-a
returns-in_err-a c =
    checking_stopped c.args.lent.head (look_in_table _ _ _) _ _ _ c.args.start _ _ c.in_err-a.was _ c.from_residual.ensures.1

pub loop-i-init : goal.loop-i-init
loop-i-init c =
    checking_start c.args.lent.head (look_in_table c.args.lent.edges.now c.args.table.now c.args.places.now) c.args.places.now c.args.lent.processes.now c.args.lent.batch.now c.in_ok-a.a c.args.reply.now (rw c.in_ok-a.was at c.requires.0)

pub returns-in_err-a-2 : goal.returns-in_err-a-2
returns-in_err-a-2 c =
    let p = err_from_is_err_and c.from_residual-in_err-a-2.result c.from_residual-in_err-a-2.ensures.1 in
    rw (c.in_ok-a.was, p.1, p.2)
    (checking_ill c.args.lent.head (look_in_table _ _ _) _ _ _ c.in_ok-a.a _ (rw c.in_ok-a.was at c.requires.0) _ _ c.loop-i.invariant c.emission_in-e.result c.emission_in-e.ensures c.lookahead_of-lookahead.result c.lookahead_of-lookahead.ensures _ c.loop-i-test.true _ c.in_err-a-2.ensures)

pub loop-i-preserved : goal.loop-i-preserved
loop-i-preserved c =
    checking_more c.args.lent.head _ _ _ _ c.in_ok-a.a _ (rw c.in_ok-a.was at c.requires.0) _ _ c.loop-i.invariant c.emission_in-e.result c.emission_in-e.ensures c.lookahead_of-lookahead.result c.lookahead_of-lookahead.ensures _ c.in_ok-a-2.ensures
