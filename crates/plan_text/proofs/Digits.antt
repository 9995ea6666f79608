-- Digits from the last to the first.
use mathlib.Core.Path.{◌≡◌, refl, sym, ap, ◌∙◌}
use mathlib.Core.List.{List, [], ◌∷◌, ◌++◌, append-nil, append_assoc}
use Prim.Native.Nat.{ℕ, zero, suc, ◌+◌, ◌*◌, ◌/◌, ◌%◌, ◌^◌, ◌≤◌, ◌<◌}
use native.Mathlib.Omega.{arith}
use native.Mathlib.Nat.{add-zero, mul_assoc, pow-suc}
use lib.Dec.{ltb}
use lib.ListN.{length}
use borrow.Author.Tests.{ltb-true, ltb-false, lt-ltb, le-ltb}
use Rattle.rules.specs.Base.{if◌then◌otherwise◌}
use Rattle.rules.proofs.Tests.{by_bool}
use Rattle.types.specs.Value.{halves}
use Rattle.plan_rules.specs.Text.{digits, decimal, nibble, hexadecimal}
use Rattle.plan_rules.proofs.Texts.{length_digits}

digits_low : (k n : ℕ) → n < 10 → digits k n ≡ (48 + n) ∷ []
unfolding digits if◌then◌otherwise◌
digits_low zero n h = refl
digits_low (suc k) n h = rw (lt-ltb n 10 h)

digits_high : (k n : ℕ) → 10 ≤ n → digits (suc k) n ≡ digits k (n / 10) ++ ((48 + n % 10) ∷ [])
unfolding digits if◌then◌otherwise◌
digits_high k n h = rw (le-ltb n 10 h)

-- More room for digits changes nothing.
digits_enough : (k j n : ℕ) → n ≤ k → n ≤ j → digits k n ≡ digits j n
digits_enough zero j n a b = digits_low zero n (omega arith) ∙ sym (digits_low j n (omega arith))
digits_enough (suc k) zero n a b = digits_low (suc k) n (omega arith) ∙ sym (digits_low zero n (omega arith))
digits_enough (suc k) (suc j) n a b =
    by_bool (ltb n 10)
    (λ t. let g : n < 10 = ltb-true n 10 t in digits_low (suc k) n g ∙ sym (digits_low (suc j) n g))
    (λ t. let g : 10 ≤ n = ltb-false n 10 t in rw (digits_high k n g, digits_high j n g, digits_enough k j (n / 10) (omega arith) (omega arith)))

pub decimal_low : (n : ℕ) → n < 10 → decimal n ≡ (48 + n) ∷ []
unfolding decimal
decimal_low n h = digits_low n n h

pub decimal_high : (n : ℕ) → 10 ≤ n → decimal n ≡ decimal (n / 10) ++ ((48 + n % 10) ∷ [])
unfolding decimal
decimal_high zero h = absurd (omega arith)
decimal_high (suc k) h = rw (digits_high k (suc k) h, digits_enough k (suc k / 10) (suc k / 10) (omega arith) (omega arith))

pub length_decimal : (n : ℕ) → n < 18446744073709551616 → length (decimal n) ≤ 20
unfolding decimal
length_decimal n h = length_digits 19 n n (omega arith)

-- The digits of h, and behind them j digits of l.
behind : (k j h l : ℕ) → l < 16 ^ j → hexadecimal (k + j) (h * 16 ^ j + l) ≡ hexadecimal k h ++ hexadecimal j l
unfolding hexadecimal
behind k zero h l p =
    let e : h * 1 + l ≡ h = omega arith in
    rw (add-zero, e, append-nil)
behind k (suc j) h l p =
    let n = h * 16 ^ suc j + l in
    let s : k + suc j ≡ suc (k + j) = omega arith in
    let m : 16 ^ suc j ≡ 16 ^ j * 16 = pow-suc 16 j in
    let w : h * 16 ^ suc j ≡ h * 16 ^ j * 16 = ap (λ i. h * i) m ∙ sym (mul_assoc h (16 ^ j) 16) in
    let d : n / 16 ≡ h * 16 ^ j + l / 16 = omega arith in
    let r : n % 16 ≡ l % 16 = omega arith in
    let b : l / 16 < 16 ^ j = omega arith in
    ap (λ i. hexadecimal i n) s ∙
    ap (λ i. hexadecimal (k + j) i ++ (nibble (n % 16) ∷ [])) d ∙
    ap (λ i. hexadecimal (k + j) (h * 16 ^ j + l / 16) ++ (nibble i ∷ [])) r ∙
    ap (λ (v : List ℕ). v ++ (nibble (l % 16) ∷ [])) (behind k j h (l / 16) b) ∙
    append_assoc (hexadecimal k h) (hexadecimal j (l / 16)) _

-- A tick by its halves.
pub hexadecimal_halves : (hi lo : ℕ) → lo < 18446744073709551616 → hexadecimal 32 (halves hi lo) ≡ hexadecimal 16 hi ++ hexadecimal 16 lo
unfolding halves
hexadecimal_halves hi lo h = behind 16 16 hi lo h

pub nibble_low : (d r : ℕ) → d < 10 → r ≡ 48 + d → r ≡ nibble d
unfolding nibble if◌then◌otherwise◌
nibble_low d r h e = rw (lt-ltb d 10 h) e

pub nibble_high : (d r : ℕ) → 10 ≤ d → r ≡ 87 + d → r ≡ nibble d
unfolding nibble if◌then◌otherwise◌
nibble_high d r h e = rw (le-ltb d 10 h) e
