-- Bits of words: none in 0, one in a power of 2, and those of both in `|`.
use mathlib.Core.Path.{◌≡◌, refl, sym, ap, ◌∙◌}
use mathlib.Core.Bool.{false, ◌||◌}
use Prim.Native.Nat.{ℕ, zero, suc, ◌/◌, ◌%◌, ◌^◌, ◌<◌, max}
use native.Mathlib.Nat.{pow-suc, mul_comm, div-div-eq-div-mul, div-one, mul-div_cancel, mul-mod_left, mod-lt, zero-lt-suc}
use native.Mathlib.Omega.{arith}
use lib.Arith.{digits_div, digits_mod}
use lib.Bits.{bit_or, or_step}
use lib.Dec.{eqb}
use borrow.Author.Tests.{ne_eqb}
use Rattle.types.proofs.Halves.{same_eqb}
use Rattle.edges.specs.Routes.{bit}

-- The lowest bit, and those above it.
low : (x : ℕ) → bit x 0 ≡ eqb (x % 2) 1
unfolding bit
low x = rw (div-one x)

high : (x d : ℕ) → bit x (suc d) ≡ bit (x / 2) d
unfolding bit
high x d = ap (λ (k : ℕ). eqb (k % 2) 1) (ap (λ (k : ℕ). x / k) (pow-suc 2 d ∙ mul_comm (2 ^ d) 2) ∙ sym (div-div-eq-div-mul x 2 (2 ^ d)))

pub bit_none : (d : ℕ) → bit 0 d ≡ false
bit_none zero = low 0
bit_none (suc d) = high 0 d ∙ bit_none d

pub bit_power : (e d : ℕ) → bit (2 ^ e) d ≡ eqb e d
bit_power zero zero = low 1
bit_power zero (suc d) = high 1 d ∙ bit_none d ∙ sym (ne_eqb 0 (suc d) (λ x. omega arith))
bit_power (suc e) zero = low (2 ^ suc e) ∙ rw (pow-suc 2 e, mul-mod_left) (sym (ne_eqb (suc e) 0 (λ x. omega arith)))
bit_power (suc e) (suc d) =
    high (2 ^ suc e) d ∙ rw (pow-suc 2 e, mul-div_cancel (2 ^ e) (zero-lt-suc 1)) (bit_power e d)
    ∙ same_eqb e d (suc e) (suc d) (λ x. omega arith) (λ x. omega arith)

-- The greater of two digits.
digit : (x y : ℕ) → x < 2 → y < 2 → (max x y < 2) × (eqb (max x y) 1 ≡ eqb x 1 || eqb y 1)
digit zero zero p q = (p, refl)
digit zero (suc zero) p q = (q, refl)
digit zero (suc (suc y)) p q = absurd (omega arith)
digit (suc zero) zero p q = (p, refl)
digit (suc zero) (suc zero) p q = (p, refl)
digit (suc zero) (suc (suc y)) p q = absurd (omega arith)
digit (suc (suc x)) y p q = absurd (omega arith)

module _ (x y : ℕ) where
  digits : (max (x % 2) (y % 2) < 2) × (eqb (max (x % 2) (y % 2)) 1 ≡ eqb (x % 2) 1 || eqb (y % 2) 1)
  digits = digit (x % 2) (y % 2) (mod-lt x (zero-lt-suc 1)) (mod-lt y (zero-lt-suc 1))

  or_low : bit_or x y % 2 ≡ max (x % 2) (y % 2)
  or_low = ap (λ (k : ℕ). k % 2) (or_step x y) ∙ digits_mod (bit_or (x / 2) (y / 2)) digits.0

  or_high : bit_or x y / 2 ≡ bit_or (x / 2) (y / 2)
  or_high = ap (λ (k : ℕ). k / 2) (or_step x y) ∙ digits_div (bit_or (x / 2) (y / 2)) digits.0

pub bit_or_holds : (d x y : ℕ) → bit (bit_or x y) d ≡ bit x d || bit y d
bit_or_holds zero x y = low (bit_or x y) ∙ ap (λ (k : ℕ). eqb k 1) (or_low x y) ∙ (digits x y).1 ∙ rw (low x, low y)
bit_or_holds (suc d) x y = high (bit_or x y) d ∙ ap (λ (k : ℕ). bit k d) (or_high x y) ∙ bit_or_holds d (x / 2) (y / 2) ∙ rw (high x d, high y d)
