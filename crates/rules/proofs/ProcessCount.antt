-- For the code: what row 1 lets pass.
use mathlib.Core.Path.{◌≡◌}
use mathlib.Core.Bool.{false, ◌||◌}
use Prim.Native.Nat.{ℕ, ◌≤◌, ◌<◌}
use native.Mathlib.Omega.{arith}
use lib.Dec.{ltb, eqb}
use borrow.Author.Tests.{ltb-false, eqb-false}
use Rattle.rules.proofs.Tests.{or_left, or_right}

module _ (n : ℕ) (a : eqb n 0 || ltb 64 n ≡ false) where
  pub some_process : 0 < n
  some_process = let f = eqb-false n 0 (or_left (eqb n 0) (ltb 64 n) a) in omega arith

  pub at_most_64 : n ≤ 64
  at_most_64 = ltb-false 64 n (or_right (eqb n 0) (ltb 64 n) a)
