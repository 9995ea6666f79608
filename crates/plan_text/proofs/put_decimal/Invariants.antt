use Prim.Native.Nat.{◌≤◌}
use Rattle.plan_text.proofs.Fronts.{Decimal}
use Rattle.plan_text.proofs.put_decimal.Given as goal

abbrev pub invariant-loop-rest : goal.invariant-loop-rest
invariant-loop-rest l = (l.i ≤ l.end) × Decimal l.n l.end l.initial.line l.rest l.i l.line

abbrev pub decreases-loop-rest : goal.decreases-loop-rest
decreases-loop-rest l = l.rest
