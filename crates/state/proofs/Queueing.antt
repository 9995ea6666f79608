-- 18 and 19, from the program's tests.
use mathlib.Core.Path.{◌≡◌, sym}
use mathlib.Core.Bool.{true}
use Prim.Native.Nat.{ℕ, ◌+◌, ◌-◌, ◌≤◌, ◌<◌}
use native.Mathlib.Omega.{arith}
use lib.Dec.{ltb}
use borrow.Author.Tests.{lt-ltb}
use Rattle.types.proofs.Halves.{same_ltb}
use Rattle.rules.specs.State.{max_count, max_pending}

pub over_full : (p k : ℕ) → 512 < p → true ≡ ltb max_pending (p + k)
over_full p k h = sym (lt-ltb 512 (p + k) (omega arith))

pub full : (p k : ℕ) → p ≤ 512 → ltb (512 - p) k ≡ ltb max_pending (p + k)
full p k h = same_ltb (512 - p) k 512 (p + k) (λ l. omega arith) (λ l. omega arith)

pub exhausted : (n k : ℕ) → n ≤ 18446744073709551615 → ltb (18446744073709551615 - n) k ≡ ltb max_count (n + k)
exhausted n k h = same_ltb (18446744073709551615 - n) k 18446744073709551615 (n + k) (λ l. omega arith) (λ l. omega arith)
