use mathlib.Core.Path.{refl}
use Rattle.reads.proofs.Answering.{of_gvt, refused, passed}
use Rattle.reads.proofs.read_gvt.Goals as goal

pub returns-in_err-check : goal.returns-in_err-check
returns-in_err-check c = refused _ _ _ _ (of_gvt _ _) _ (c.in_err-check.ensures) _ c.from_residual.ensures.1

pub returns : goal.returns
returns c = passed _ _ _ _ (of_gvt _ _) c.in_ok-check.ensures _ refl
