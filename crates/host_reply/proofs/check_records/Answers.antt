use native.Mathlib.Omega.{arith}
use Rattle.host_reply.proofs.Checking.{scanned_refused, asks, none_checked, checked_next, checked_ill, checked_whole}
use Rattle.host_reply.proofs.check_records.Goals as goal

pub returns-in_err-a : goal.returns-in_err-a
returns-in_err-a c = scanned_refused _ c.args.head _ _ _ c.in_err-a.was _ c.from_residual.ensures.1

pub loop-e-init : goal.loop-e-init
loop-e-init c = none_checked c.args.words.now c.args.head _ c.args.reply.now _ c.in_ok-a.was c.requires

pub check_next-requires : goal.check_next-requires
check_next-requires c = asks c.args.words.now c.args.head _ c.args.reply.now _ c.in_ok-a.was c.requires

pub returns-in_err-a-2 : goal.returns-in_err-a-2
returns-in_err-a-2 c =
    checked_ill c.args.words.now c.args.head _ _ _ c.in_ok-a.was c.requires _ _ c.loop-e.invariant c.loop-e-test.true _ c.in_err-a-2.ensures _ c.from_residual-in_err-a-2.ensures.1

pub loop-e-preserved : goal.loop-e-preserved
loop-e-preserved c =
    checked_next c.args.words.now c.args.head _ _ _ c.in_ok-a.was c.requires _ _ c.loop-e.invariant c.loop-e-test.true _ c.in_ok-a-2.ensures

pub returns : goal.returns
returns c = checked_whole c.args.words.now c.args.head _ c.args.reply.now _ c.in_ok-a.was c.requires c.loop-e.e-index _ c.loop-e.invariant (omega arith)
