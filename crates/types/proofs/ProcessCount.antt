-- Row 1, as a program tests it.
use mathlib.Core.Path.{◌≡◌}
use mathlib.Core.Bool.{true, ◌||◌}
use Prim.Native.Nat.{ℕ}
use lib.Dec.{ltb, eqb}
use borrow.Author.Tests.{eq-eqb, ne_eqb}

pub no_process : (n : ℕ) → n ≡ 0 → true ≡ (eqb n 0 || ltb 64 n)
no_process n e = rw (eq-eqb n 0 e)

pub processes : (n : ℕ) → (n ≡ 0 → ⊥) → ltb 64 n ≡ (eqb n 0 || ltb 64 n)
processes n a = rw (ne_eqb n 0 a)
