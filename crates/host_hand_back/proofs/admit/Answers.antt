use Rattle.host_hand_back.proofs.Closing.{admission_stopped, admission_lost, admission_passed}
use Rattle.host_hand_back.proofs.admit.Goals as goal

pub returns-in_err-check : goal.returns-in_err-check
returns-in_err-check c = admission_stopped _ c.args.head _ _ c.in_err-check.was _ c.from_residual.ensures.1

pub returns-in_err-final_check : goal.returns-in_err-final_check
returns-in_err-final_check c = admission_lost _ c.args.head _ _ c.in_ok-check.was _ c.in_err-final_check.ensures _ c.from_residual-in_err-final_check.ensures.1

pub returns : goal.returns
returns c = admission_passed _ c.args.head _ _ c.in_ok-check.was c.in_ok-final_check.ensures
