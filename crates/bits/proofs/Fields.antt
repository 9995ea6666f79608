-- One law for every width: a field is read back as its number, and cut in two.
use Prim.Native.Nat.{ℕ, zero, suc, ◌+◌, ◌*◌, ◌/◌, ◌%◌, ◌^◌, ◌<◌, ◌≤◌}
use mathlib.Core.Path.{◌≡◌, refl, sym, ap, ◌∙◌}
use mathlib.Core.Bool.{Bool, true, false}
use mathlib.Core.List.{List, [], ◌∷◌, ◌++◌}
use native.Mathlib.Omega.{arith}
use native.Mathlib.Nat.{zero-add, suc-add, mul-add-div_right, mod-one, two-pow-succ}
use lib.Dec.{eqb}
use lib.Pow.{pow_pos, pow-add, pow_mono, shr-shr, high, low, mod-pow-add}
use lib.ListN.{length, take, drop, length-append, length-take, length-drop}
use lib.Seq.{take-add, length-take-le}
use Rattle.bits.specs.Bits.{bit, odd, bits_of, value_of}

pub bit_odd : (n : ℕ) → bit (odd n) ≡ n % 2
unfolding bit odd
bit_odd n = by_digit (n % 2) (omega arith)
  where
    by_digit : (d : ℕ) → d < 2 → bit (eqb d 1) ≡ d
    by_digit zero h = refl
    by_digit (suc zero) h = refl
    by_digit (suc (suc d)) h = absurd (omega arith)

pub odd_bit : (b : Bool) → odd (bit b) ≡ b
unfolding bit odd
odd_bit true = refl
odd_bit false = refl

pub length_bits : (w v : ℕ) → length (bits_of w v) ≡ w
unfolding bits_of
length_bits zero v = refl
length_bits (suc w) v = ap suc (length_bits w v)

-- A field of a + b bits is two fields.
pub bits_split : (a b v : ℕ) → bits_of (a + b) v ≡ bits_of a (v / 2 ^ b) ++ bits_of b v
unfolding bits_of
bits_split zero b v = rw zero-add
bits_split (suc a) b v =
    let e : b + a ≡ a + b = omega arith in
    rw (suc-add, shr-shr, e, bits_split a b v)

-- Bits above the field do not matter.
pub bits_low : (w h v : ℕ) → bits_of w (h * 2 ^ w + v) ≡ bits_of w v
unfolding bits_of odd
bits_low zero h v = refl
bits_low (suc w) h v =
    let e : h * 2 ^ suc w + v ≡ (h * 2) * 2 ^ w + v = rw two-pow-succ (omega arith) in
    let d : (h * 2 + v / 2 ^ w) % 2 ≡ v / 2 ^ w % 2 = omega arith in
    rw (e, mul-add-div_right (pow_pos w) (h * 2) v, d, bits_low w (h * 2) v)

-- A field is read back as its number.
pub value_bits : (w v : ℕ) → value_of (bits_of w v) ≡ v % 2 ^ w
unfolding bits_of value_of
value_bits zero v = sym (mod-one v)
value_bits (suc w) v =
    let t : bit (odd (v / 2 ^ w)) * 2 ^ length (bits_of w v) + value_of (bits_of w v) ≡ v % 2 ^ (1 + w)
    = rw (length_bits, bit_odd, value_bits w v) (sym (mod-pow-add v 1 w)) in
    t ∙ ap (λ (k : ℕ). v % 2 ^ k) (omega arith)

pub value_lt : (bs : List Bool) → value_of bs < 2 ^ length bs
unfolding value_of bit
value_lt [] = omega arith
value_lt (true ∷ bs) = omega (arith, value_lt bs, two-pow-succ (length bs))
value_lt (false ∷ bs) = omega (arith, value_lt bs, two-pow-succ (length bs))

-- What a field of w bits can hold.
pub value_take : (w : ℕ) (bs : List Bool) → value_of (take w bs) < 2 ^ w
value_take w bs =
    let h : length (take w bs) ≤ w = rw length-take (omega arith) in
    omega (arith, value_lt (take w bs), pow_mono h)

-- Bits are the field of their number.
pub bits_value : (bs : List Bool) → bits_of (length bs) (value_of bs) ≡ bs
unfolding bits_of value_of
bits_value [] = refl
bits_value (b ∷ bs) =
    rw (high (bit b) (length bs) (value_lt bs), bits_low (length bs) (bit b) (value_of bs), bits_value bs, odd_bit b)

pub value_append : (xs ys : List Bool) → value_of (xs ++ ys) ≡ value_of xs * 2 ^ length ys + value_of ys
unfolding value_of
value_append [] ys = omega arith
value_append (x ∷ xs) ys =
    let t : bit x * 2 ^ length (xs ++ ys) + value_of (xs ++ ys) ≡ (bit x * 2 ^ length xs + value_of xs) * 2 ^ length ys + value_of ys
    = rw (length-append, pow-add, value_append xs ys) (omega arith) in
    t

-- Two fields, one behind the other, as one.
pub value_two : (x : List Bool) (a b : ℕ) → a + b ≤ length x → value_of (take (a + b) x) ≡ value_of (take a x) * 2 ^ b + value_of (take b (drop a x))
value_two x a b h =
    let l : length (take b (drop a x)) ≡ b = length-take-le b (drop a x) (rw length-drop (omega arith)) in
    ap value_of (take-add a b x) ∙ rw l at (value_append (take a x) (take b (drop a x)))

-- t bits of a field, those above its r lowest.
pub slice : (x : List Bool) (a t r : ℕ) → a + (t + r) ≤ length x → value_of (take (a + (t + r)) x) / 2 ^ r % 2 ^ t ≡ value_of (take t (drop a x))
slice x a t r h =
    let e : a + (t + r) ≡ (a + t) + r = omega arith in
    let v = value_two x (a + t) r (omega arith) in
    let u = value_two x a t (omega arith) in
    ap (λ (k : ℕ). value_of (take k x) / 2 ^ r % 2 ^ t) e
    ∙ ap (λ (k : ℕ). k / 2 ^ r % 2 ^ t) v
    ∙ ap (λ (k : ℕ). k % 2 ^ t) (high (value_of (take (a + t) x)) r (value_take r (drop (a + t) x)) ∙ u)
    ∙ low (value_of (take a x)) t (value_take t (drop a x))
