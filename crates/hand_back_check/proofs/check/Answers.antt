use mathlib.Core.Path.{ap}
use Rattle.std.specs.Prelude.{Err, is_err}
use Rattle.std.proofs.Common.{sym, ◌∙◌, rules, arith, of_calls}
use Rattle.std.proofs.lemmas.Grind.{common_steps}
use Rattle.std.proofs.lemmas.Result.{err_from_is_err_and}
use Rattle.types.specs.Value.{duration_of}
use Rattle.hand_back_check.proofs.Next.{check_stopped, check_malformed, check_refused, check_behind, check_checked, in_hand_holds}
use Rattle.hand_back_check.proofs.check.Goals as goal

pub returns-in_err-a : goal.returns-in_err-a
returns-in_err-a c =
    let p = err_from_is_err_and c.from_residual.result c.from_residual.ensures.1 in
    rw (p.1 ∙ ap Err p.2 ∙ sym c.in_err-a.was) (check_stopped c.args.head (duration_of c.args.lookahead) c.args.places.now c.args.processes.now c.args.batch.now c.args.a c.args.e (ap is_err c.in_err-a.was))

pub returns-then-malformed_emission : goal.returns-then-malformed_emission
returns-then-malformed_emission c =
    rw c.in_ok-a.was
    (check_malformed c.args.head (duration_of c.args.lookahead) _ _ _ c.in_ok-a.a c.args.e (rw c.in_ok-a.was at c.requires) _ c.malformed_emission.ensures c.if-malformed_emission.true)

pub returns-then-is_err : goal.returns-then-is_err
returns-then-is_err c =
    rw c.in_ok-a.was
    (check_refused c.args.head _ _ _ _ c.in_ok-a.a c.args.e (rw c.in_ok-a.was at c.requires) _ c.malformed_emission.ensures c.if-malformed_emission.false _ c.to_word-emitter.ensures _ c.count_remote-remote.ensures (sym c.is_err.ensures.value ∙ c.if-is_err.true) _ c.checked.ensures)

pub returns-then-is_some_and : goal.returns-then-is_some_and
returns-then-is_some_and c =
    rw c.in_ok-a.was
    (check_behind c.args.head _ _ _ _ c.in_ok-a.a c.args.e (rw c.in_ok-a.was at c.requires) _ c.malformed_emission.ensures c.if-malformed_emission.false _ c.to_word-emitter.ensures _ c.count_remote-remote.ensures (grind (arith, common_steps, of_calls)) _ c.checked-then-is_some_and.ensures)

pub tick_of-time-requires : goal.tick_of-time-requires
tick_of-time-requires c =
    in_hand_holds c.args.head (duration_of c.args.lookahead) _ _ _ c.in_ok-a.a c.args.e (rw c.in_ok-a.was at c.requires) _ c.malformed_emission.ensures c.if-malformed_emission.false _ c.to_word-emitter.ensures

pub returns : goal.returns
returns c =
    rw c.in_ok-a.was
    (check_checked c.args.head _ _ _ _ c.in_ok-a.a c.args.e (rw c.in_ok-a.was at c.requires) _ c.malformed_emission.ensures c.if-malformed_emission.false _ c.to_word-emitter.ensures _ c.count_remote-remote.ensures (sym c.is_err.ensures.value ∙ c.if-is_err.false) (search (rules, of_calls)) c.tick_of-time.result c.tick_of-time.ensures c.check_emission-verdict.result c.check_emission-verdict.ensures _ c.checked-2.ensures)
