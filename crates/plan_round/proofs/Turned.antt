-- A turn that is counted from a call before.
use mathlib.Core.List.{List}
use Prim.Native.Nat.{ℕ, ◌+◌}
use native.Mathlib.Omega.{arith}
use Rattle.plan_round.specs.declared.Turn.{Turn}
use Rattle.plan_round.specs.Turns.{Turns}

pub turned_later : {s : List ℕ} {k : ℕ} {r : Turn} {E Q Z B t y l : List ℕ} → Turns s (k + 1) r E Q Z B t y l → Turns s k r E Q Z B t y l
turned_later i = record { later = omega (arith, i.later); came = i.came }
