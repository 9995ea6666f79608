use Prim.Native.Nat.{◌+◌, ◌-◌, ◌^◌}
use native.Mathlib.Omega.{arith}
use Rattle.types.proofs.Halves.{halves_sum, halves_over}
use Rattle.types.proofs.SimTime.checked_add.Goals as goal

pub returns-then-duration-high_room : goal.returns-then-duration-high_room
returns-then-duration-high_room c = halves_sum _ _ _ _ _ _ 0 (omega arith) (omega arith) (record { upper = omega arith; lower = omega arith })

pub returns-then-duration-low_room : goal.returns-then-duration-low_room
returns-then-duration-low_room c =
    let a = c.args in
    halves_over _ _ _ _ (a.self.lo + a.duration.lo) 0 (omega arith) (omega arith)

pub returns-then-duration-high_room-2 : goal.returns-then-duration-high_room-2
returns-then-duration-high_room-2 c = halves_sum _ _ _ _ _ _ 1 (omega arith) (omega arith) (record { upper = omega arith; lower = omega arith })

pub returns : goal.returns
returns c =
    let a = c.args in
    halves_over _ _ _ _ (a.self.lo + a.duration.lo - 2 ^ 64) 1 (omega arith) (omega arith)
