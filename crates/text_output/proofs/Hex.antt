-- The hexadecimal digits of a number of two halves.
use mathlib.Core.Path.{◌≡◌, sym, ap, ◌∙◌, subst}
use mathlib.Core.List.{List, [], ◌∷◌, ◌++◌, append-nil, append_assoc}
use Prim.Native.Nat.{ℕ, zero, suc, ◌+◌, ◌-◌, ◌*◌, ◌/◌, ◌%◌, ◌^◌, ◌≤◌, ◌<◌}
use native.Mathlib.Omega.{arith}
use native.Mathlib.Nat.{add-zero, mul_assoc}
use mathlib.Core.Logic.{⊎_elim}
use lib.Pow.{pow-add}
use lib.ListN.{length, take, drop}
use lib.Seq.{length-take-le, take-length, take-append_seam}
use Rattle.types.specs.declared.SimTime.{SimTime}
use Rattle.types.specs.Value.{halves, ticks_of}
use Rattle.types.proofs.Halves.{lt_or_ge}
use Rattle.io.specs.Counts.{IsPrefixLen}
use Rattle.io.specs.Digits.{last_digits, hex_digit_ascii, IsDigitCount}

more : (j : ℕ) → 16 ^ suc j ≡ 16 ^ j * 16
more j = let s : suc j ≡ j + 1 = omega arith in ap (λ i. 16 ^ i) s ∙ pow-add 16 j 1

-- The digits of h, and behind them j digits of l.
pub digits_behind : (k j h l : ℕ) → l < 16 ^ j → last_digits 16 (k + j) (h * 16 ^ j + l) ≡ last_digits 16 k h ++ last_digits 16 j l
digits_behind k zero h l p =
    let e : h * 1 + l ≡ h = omega arith in
    rw (add-zero, e, append-nil)
digits_behind k (suc j) h l p =
    let n = h * 16 ^ suc j + l in
    let s : k + suc j ≡ suc (k + j) = omega arith in
    let w : h * 16 ^ suc j ≡ h * 16 ^ j * 16 = ap (λ i. h * i) (more j) ∙ sym (mul_assoc h (16 ^ j) 16) in
    let b : l < 16 ^ j * 16 = subst (λ i. l < i) (more j) p in
    let d : n / 16 ≡ h * 16 ^ j + l / 16 = omega arith in
    let m : n % 16 ≡ l % 16 = omega arith in
    let r : l / 16 < 16 ^ j = omega arith in
    ap (λ i. last_digits 16 i n) s ∙
    ap (λ i. last_digits 16 (k + j) i ++ (hex_digit_ascii (n % 16) ∷ [])) d ∙
    ap (λ i. last_digits 16 (k + j) (h * 16 ^ j + l / 16) ++ (hex_digit_ascii i ∷ [])) m ∙
    ap (λ (v : List ℕ). v ++ (hex_digit_ascii (l % 16) ∷ [])) (digits_behind k j h (l / 16) r) ∙
    append_assoc (last_digits 16 k h) (last_digits 16 j (l / 16)) _

-- Sixteen digits more are the fewest for a number above 2^64.
module _ (h l k : ℕ) (up : 0 < h) (low : l < 18446744073709551616) (f : IsDigitCount 16 1 h k) where
  below : h * 18446744073709551616 + l < 16 ^ (k + 16)
  below = let g : h < 16 ^ k = f.1 in rw (pow-add 16 k 16) (omega arith)

  lead : 16 ^ (k - 1) ≤ h
  lead = ⊎_elim
      (λ (b : 1 < k). f.2 b)
      (λ (b : k ≤ 1). let e : k - 1 ≡ 0 = omega arith in rw e up)
      (lt_or_ge 1 k)

  above : 16 ^ (k + 16 - 1) ≤ h * 18446744073709551616 + l
  above =
      let e : k + 16 - 1 ≡ k - 1 + 16 = let g : 1 ≤ k = f.0 in omega arith in
      let g : 16 ^ (k - 1) ≤ h = lead in
      rw (e, pow-add 16 (k - 1) 16) (omega arith)

  pub fewest_of_both : IsDigitCount 16 1 (h * 18446744073709551616 + l) (k + 16)
  fewest_of_both = (omega arith, below, λ b. above)

-- Sixteen digits are enough for 64 bits.
positive : (k : ℕ) → 1 ≤ 16 ^ k
positive zero = omega arith
positive (suc k) = let h : 1 ≤ 16 ^ k = positive k in rw (more k) (omega arith)

pub most_digits : (n k least : ℕ) → n < 18446744073709551616 → least ≤ 16 → IsDigitCount 16 least n k → k ≤ 16
most_digits n k least b l f = ⊎_elim
    (λ (p : 16 < k).
    let e : k - 1 ≡ 16 + (k - 17) = omega arith in
    let h : 1 ≤ 16 ^ (k - 17) = positive (k - 17) in
    let w : 16 ^ (16 + (k - 17)) ≡ 18446744073709551616 * 16 ^ (k - 17) = pow-add 16 16 (k - 17) in
    let g : 16 ^ (16 + (k - 17)) ≤ n = subst (λ i. 16 ^ i ≤ n) e (f.2 (omega arith)) in
    absurd (omega arith))
    (λ (p : k ≤ 16). p)
    (lt_or_ge 16 k)

-- What tick_digits promises.
abbrev pub Told : ℕ → List ℕ → ℕ → Type 0
Told n after r = IsPrefixLen r after × (IsDigitCount 16 1 n r × (take r after ≡ last_digits 16 r n))

told : (n r : ℕ) (after : List ℕ) → r ≤ length after → IsDigitCount 16 1 n r → take r after ≡ last_digits 16 r n → Told n after r
told n r after le f d = ((le, sym (length-take-le r after le)), (f, d))

-- The upper half is 0: the digits of the lower one.
pub short : (t : SimTime) (k r : ℕ) (text out after : List ℕ) → t.hi ≡ 0 → k ≤ length text → IsDigitCount 16 1 t.lo k → take k text ≡ last_digits 16 k t.lo
    → r ≡ length (take k text) → after ≡ take (length (take k text)) (take k text) ++ drop (length (take k text)) out → length after ≡ length out → length (take k text) ≤ length out
    → Told (ticks_of t) after r
unfolding halves
short t k r text out after z le f d e a l fits =
    let g : length (take k text) ≡ k = length-take-le k text le in
    let n : t.hi * 2 ^ 64 + t.lo ≡ t.lo = omega arith in
    let s : r ≡ k = e ∙ g in
    let b : take r after ≡ take k text = ap (λ i. take i after) e ∙ ap (λ (v : List ℕ). take (length (take k text)) v) (a ∙ ap (λ (v : List ℕ). v ++ drop (length (take k text)) out) (take-length (take k text))) ∙ take-append_seam (take k text) _ in
    rw (n, s) (told t.lo k after (omega arith) f (rw s at b ∙ d))

-- Else those of both.
pub long : (t : SimTime) (k j r : ℕ) (text low after : List ℕ) → 0 < t.hi → t.lo < 18446744073709551616 → k ≤ length text → IsDigitCount 16 1 t.hi k → take k text ≡ last_digits 16 k t.hi
    → IsDigitCount 16 16 t.lo j → take j low ≡ last_digits 16 j t.lo → r ≡ length (take k text) + 16 → take r after ≡ take k text ++ take 16 low → r ≤ length after
    → Told (ticks_of t) after r
unfolding halves
long t k j r text low after up q le f d g c e a fits =
    let x : j ≡ 16 = let y : 16 ≤ j = g.0 in let z : j ≤ 16 = most_digits t.lo j 16 q (omega arith) g in omega arith in
    let s : r ≡ k + 16 = e ∙ ap (λ i. i + 16) (length-take-le k text le) in
    let v : take 16 low ≡ last_digits 16 16 t.lo = subst (λ i. take i low ≡ last_digits 16 i t.lo) x c in
    let b : take (k + 16) after ≡ last_digits 16 (k + 16) (t.hi * 2 ^ 64 + t.lo) = rw s at a ∙ (λ i. d i ++ v i) ∙ sym (digits_behind k 16 t.hi t.lo q) in
    rw s (told (t.hi * 2 ^ 64 + t.lo) (k + 16) after (omega arith) (fewest_of_both t.hi t.lo k up q f) b)
