-- Numbers read back from their bytes.
use mathlib.Core.Path.{◌≡◌, refl}
use mathlib.Core.List.{List, [], ◌∷◌, ◌++◌}
use Prim.Native.Nat.{ℕ, zero, suc, ◌+◌, ◌*◌, ◌/◌, ◌%◌, ◌^◌, ◌≤◌, ◌<◌}
use native.Mathlib.Omega.{arith}
use native.Mathlib.Nat.{pow-suc}
use lib.Dec.{ltb}
use lib.ListN.{length, get_or, length-append, get_or-append}
use borrow.Author.Tests.{ltb-true, ltb-false, lt-ltb, le-ltb}
use Rattle.rules.specs.Base.{if◌then◌otherwise◌}
use Rattle.rules.proofs.Tests.{by_bool}
use Rattle.plan_rules.specs.Text.{digits, decimal, nibble, hexadecimal}
use Rattle.plan_rules.specs.Size.{digit_of, value_from, Texts}

-- One digit more.
value_on : (b a : ℕ) (xs : List ℕ) (x : ℕ) → value_from b a (xs ++ (x ∷ [])) ≡ value_from b a xs * b + digit_of x
unfolding value_from
value_on b a [] x = refl
value_on b a (y ∷ ys) x = value_on b (a * b + digit_of y) ys x

-- A digit of decimal and of hexadecimal is read as it was written.
digit_low : (d : ℕ) → d < 10 → digit_of (48 + d) ≡ d
unfolding digit_of if◌then◌otherwise◌
digit_low d h = rw (lt-ltb (48 + d) 58 (omega arith)) (omega arith)

digit_nibble : (d : ℕ) → digit_of (nibble d) ≡ d
unfolding nibble if◌then◌otherwise◌
digit_nibble d = by_bool (ltb d 10) (λ t. rw t (digit_low d (ltb-true d 10 t))) (λ t. rw t (high (ltb-false d 10 t)))
  where
    high : 10 ≤ d → digit_of (87 + d) ≡ d
    high h = unfold digit_of in rw (le-ltb (87 + d) 58 (omega arith)) (omega arith)

-- What digits does, by the test.
digits_low : (k n : ℕ) → n < 10 → digits k n ≡ (48 + n) ∷ []
unfolding digits if◌then◌otherwise◌
digits_low zero n h = refl
digits_low (suc k) n h = rw (lt-ltb n 10 h)

digits_high : (k n : ℕ) → 10 ≤ n → digits (suc k) n ≡ digits k (n / 10) ++ ((48 + n % 10) ∷ [])
unfolding digits if◌then◌otherwise◌
digits_high k n h = rw (le-ltb n 10 h)

value_low : (k n : ℕ) → n < 10 → value_from 10 0 (digits k n) ≡ n
unfolding value_from
value_low k n h = rw (digits_low k n h) (omega (arith, digit_low n h))

value_digits : (k n : ℕ) → n ≤ k → value_from 10 0 (digits k n) ≡ n
value_digits zero n h = value_low zero n (omega arith)
value_digits (suc k) n h =
    by_bool (ltb n 10)
    (λ t. value_low (suc k) n (ltb-true n 10 t))
    (λ t. let g : 10 ≤ n = ltb-false n 10 t in rw (digits_high k n g, value_on 10 0 (digits k (n / 10)) (48 + n % 10)) (omega (arith, value_digits k (n / 10) (omega arith), digit_low (n % 10) (omega arith))))

some_digits : (k n : ℕ) → 0 < length (digits k n)
some_digits zero n = unfold digits in (omega arith)
some_digits (suc k) n =
    by_bool (ltb n 10)
    (λ t. rw (digits_low (suc k) n (ltb-true n 10 t)) (omega arith))
    (λ t. rw (digits_high k n (ltb-false n 10 t), length-append) (omega arith))

lead_digits : (k n : ℕ) → n ≤ k → 0 < n → 48 < get_or (digits k n) 0 0
lead_digits zero n h z = absurd (omega arith)
lead_digits (suc k) n h z =
    by_bool (ltb n 10)
    (λ t. rw (digits_low (suc k) n (ltb-true n 10 t)) (omega arith))
    (λ t. let g : 10 ≤ n = ltb-false n 10 t in rw (digits_high k n g, get_or-append (digits k (n / 10)) ((48 + n % 10) ∷ []) 0 0 (some_digits k (n / 10))) (lead_digits k (n / 10) (omega arith) (omega arith)))

-- At most d + 1 digits below 10 ^ (d + 1).
pub length_digits : (d k n : ℕ) → n < 10 ^ suc d → length (digits k n) ≤ suc d
length_digits zero k n h = rw (digits_low k n h) (omega arith)
length_digits (suc d) zero n h = unfold digits in (omega arith)
length_digits (suc d) (suc k) n h =
    by_bool (ltb n 10)
    (λ t. rw (digits_low (suc k) n (ltb-true n 10 t)) (omega arith))
    (λ t. rw (digits_high k n (ltb-false n 10 t), length-append) (omega (arith, length_digits d k (n / 10) (let e : 10 ^ suc (suc d) ≡ 10 ^ suc d * 10 = pow-suc 10 (suc d) in omega arith))))

pub length_hexadecimal : (w n : ℕ) → length (hexadecimal w n) ≡ w
unfolding hexadecimal
length_hexadecimal zero n = refl
length_hexadecimal (suc w) n = rw (length-append, length_hexadecimal w (n / 16)) (omega arith)

value_hexadecimal : (w n : ℕ) → n < 16 ^ w → value_from 16 0 (hexadecimal w n) ≡ n
unfolding hexadecimal
value_hexadecimal zero n h = unfold value_from in (omega arith)
value_hexadecimal (suc w) n h =
    let e : 16 ^ suc w ≡ 16 ^ w * 16 = pow-suc 16 w in
    rw (value_on 16 0 (hexadecimal w (n / 16)) (nibble (n % 16)), value_hexadecimal w (n / 16) (omega arith), digit_nibble (n % 16)) (omega arith)

pub texts : Texts
unfolding decimal
texts = record {
  decimal_value = λ n. value_digits n n (omega arith);
  decimal_lead = λ n h. lead_digits n n (omega arith) h;
  hexadecimal_value = value_hexadecimal;
  hexadecimal_length = length_hexadecimal;
}
