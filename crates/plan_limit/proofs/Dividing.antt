-- Division in pieces, and what it says of a product.
use Prim.Native.Nat.{ℕ, ◌+◌, ◌*◌, ◌/◌, ◌%◌, ◌≤◌, ◌<◌}
use mathlib.Core.Path.{◌≡◌, sym}
use mathlib.Core.Bool.{Bool, not}
use native.Mathlib.Omega.{arith}
use lib.Dec.{leb, ltb}
use borrow.Author.Tests.{le-leb, lt-leb, ltb-true, ltb-false}
use Rattle.types.specs.Value.{halves}
use Rattle.rules.proofs.Tests.{by_bool}

module _ (hi lo : ℕ) where
  abbrev middle : ℕ
  middle = hi % 65537 * 4294967296 + lo / 4294967296

  abbrev low : ℕ
  low = middle % 65537 * 4294967296 + lo % 4294967296

  pub in_pieces : halves (hi / 65537) (middle / 65537 * 4294967296 + low / 65537) ≡ halves hi lo / 65537
  unfolding halves
  in_pieces = omega arith

-- 65,537 L ≤ H exactly where H / 65,537 is not below L.
pub no_division : (L H q : ℕ) (t : Bool) → q ≡ H / 65537 → t ≡ ltb q L → not t ≡ leb (65537 * L) H
no_division L H q t e f =
    by_bool (ltb q L)
    (λ y. let l : q < L = ltb-true q L y in rw (f, y) (sym (lt-leb (65537 * L) H (omega arith))))
    (λ n. let l : L ≤ q = ltb-false q L n in rw (f, n) (sym (le-leb (65537 * L) H (omega arith))))
