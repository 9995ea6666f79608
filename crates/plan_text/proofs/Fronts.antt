-- Text in front of what stands in an array: one byte, the loops that write digits, and one text in front of another.
use mathlib.Core.Path.{◌≡◌, refl, sym, ap, ◌∙◌}
use mathlib.Core.List.{List, [], ◌∷◌, ◌++◌, append_assoc}
use Prim.Native.Nat.{ℕ, suc, ◌+◌, ◌-◌, ◌/◌, ◌%◌, ◌≤◌, ◌<◌}
use native.Mathlib.Omega.{arith}
use lib.ListN.{length, drop, set, length-append, length-set}
use lib.Seq.{drop-cons, drop-set-lt, get_or-set_same}
use Rattle.plan_rules.specs.Text.{decimal, nibble, hexadecimal}
use Rattle.plan_text.specs.Prepends.{Prepends}
use Rattle.plan_rules.proofs.Texts.{length_hexadecimal}
use Rattle.plan_text.proofs.Digits.{decimal_low, decimal_high, length_decimal}

-- A byte stored in front of `i`.
pub one_more : (w : List ℕ) (i v : ℕ) → 0 < i → i ≤ length w → drop (i - 1) (set w (i - 1) v) ≡ v ∷ drop i w
one_more w i v h l =
    let g : i - 1 < length (set w (i - 1) v) = simp length-set (omega arith) in
    let k : i - 1 < length w = omega arith in
    let s : suc (i - 1) ≡ i = omega arith in
    let b : i - 1 < i = omega arith in
    drop-cons (set w (i - 1) v) (i - 1) 0 g ∙ rw (s, get_or-set_same w (i - 1) v 0 k, drop-set-lt i w (i - 1) v b)

-- What is left of n's digits at rest, with what is written from i on, is all of them.
pub record Decimal (n end : ℕ) (old : List ℕ) (rest i : ℕ) (w : List ℕ) : Type 0 where
  pub place : i + length (decimal n) ≡ end + length (decimal rest)
  pub whole : decimal rest ++ drop i w ≡ decimal n ++ drop end old

some_decimal : (n : ℕ) → n < 10 → length (decimal n) ≡ 1
some_decimal n h = rw (decimal_low n h)

more_decimal : (n : ℕ) → 10 ≤ n → length (decimal n) ≡ length (decimal (n / 10)) + 1
more_decimal n h = rw (decimal_high n h, length-append)

module _ (n end : ℕ) (old : List ℕ) (rest i : ℕ) (w : List ℕ) (room : 20 ≤ end) (top : n < 18446744073709551616) (d : Decimal n end old rest i w) where
  pub decimal_room : 10 ≤ rest → 0 < i
  decimal_room h = omega (arith, d.place, length_decimal n top, more_decimal rest h)

  pub decimal_last : rest < 10 → 0 < i
  decimal_last h = omega (arith, d.place, length_decimal n top, some_decimal rest h)

  -- One digit more.
  pub decimal_more : 10 ≤ rest → i ≤ length w → Decimal n end old (rest / 10) (i - 1) (set w (i - 1) (48 + rest % 10))
  decimal_more h l = record {
    place = omega (arith, d.place, more_decimal rest h, decimal_room h);
    whole =
        rw (one_more w i (48 + rest % 10) (decimal_room h) l)
        (sym (append_assoc (decimal (rest / 10)) _ (drop i w)) ∙ ap (λ (v : List ℕ). v ++ drop i w) (sym (decimal_high rest h)) ∙ d.whole);
  }

  -- The first digit.
  pub decimal_end : rest < 10 → i ≤ length w → Prepends old end (decimal n) (set w (i - 1) (48 + rest)) (i - 1) × (end ≤ i - 1 + 20)
  decimal_end h l = (
    record {
      place = omega (arith, d.place, some_decimal rest h, decimal_last h);
      stands = one_more w i (48 + rest) (decimal_last h) l ∙ ap (λ (v : List ℕ). v ++ drop i w) (sym (decimal_low rest h)) ∙ d.whole;
    },
    omega (arith, d.place, some_decimal rest h, length_decimal n top, decimal_last h),
  )

-- The same for w hexadecimal digits, which end at `end` and begin at `first`.
pub record Hexadecimal (n first end : ℕ) (old : List ℕ) (rest i : ℕ) (w : List ℕ) : Type 0 where
  pub low : first ≤ i
  pub high : i ≤ end
  pub whole : hexadecimal (i - first) rest ++ drop i w ≡ hexadecimal (end - first) n ++ drop end old

pub hexadecimal_more : (n first end : ℕ) (old : List ℕ) (rest i : ℕ) (w : List ℕ) (x : ℕ) → first < i → end ≤ length w → x ≡ nibble (rest % 16)
    → Hexadecimal n first end old rest i w → Hexadecimal n first end old (rest / 16) (i - 1) (set w (i - 1) x)
hexadecimal_more n first end old rest i w x h l e d = record {
  low = omega arith;
  high = omega (arith, d.high);
  whole =
      let b : i ≤ length w = omega (arith, d.high) in
      let z : 0 < i = omega arith in
      let s : i - first ≡ suc (i - 1 - first) = omega arith in
      rw (one_more w i x z b, e)
      (sym (append_assoc (hexadecimal (i - 1 - first) (rest / 16)) _ (drop i w)) ∙ ap (λ (v : List ℕ). v ++ drop i w) (next (i - 1 - first) rest) ∙ ap (λ k. hexadecimal k rest ++ drop i w) (sym s) ∙ d.whole);
}
  where
    next : (k m : ℕ) → hexadecimal k (m / 16) ++ (nibble (m % 16) ∷ []) ≡ hexadecimal (suc k) m
    next k m = unfold hexadecimal in refl

pub hexadecimal_end : (n first end k : ℕ) (old : List ℕ) (rest i : ℕ) (w : List ℕ) → i ≤ first → end ≡ first + k
    → Hexadecimal n first end old rest i w → Prepends old end (hexadecimal k n) w first
hexadecimal_end n first end k old rest i w h e d = record {
  place = rw (length_hexadecimal k n) (sym e);
  stands =
      let z : i ≡ first = omega (arith, d.low) in
      let s : i - first ≡ 0 = omega arith in
      let t : end - first ≡ k = omega arith in
      ap (λ j. drop j w) (sym z) ∙ sym (none (i - first) s) ∙ d.whole ∙ ap (λ j. hexadecimal j n ++ drop end old) t;
}
  where
    none : (j : ℕ) → j ≡ 0 → hexadecimal j rest ++ drop i w ≡ drop i w
    none j z = unfold hexadecimal in rw z

-- One text, and one in front of it.
pub prepend_both : (a b c first second : List ℕ) (end middle r : ℕ) → Prepends a end second b middle → Prepends b middle first c r → Prepends a end (first ++ second) c r
prepend_both a b c first second end middle r p q = record {
  place = omega (arith, p.place, q.place, length-append first second);
  stands = q.stands ∙ ap (λ (v : List ℕ). first ++ v) p.stands ∙ sym (append_assoc first second (drop end a));
}

-- A byte, and a text in front of it.
pub prepend_behind : (a c text : List ℕ) (x end r : ℕ) → 0 < end → end ≤ length a → Prepends (set a (end - 1) x) (end - 1) text c r → Prepends a end (text ++ (x ∷ [])) c r
prepend_behind a c text x end r h l q = prepend_both a (set a (end - 1) x) c text (x ∷ []) end (end - 1) r (record { place = omega arith; stands = one_more a end x h l }) q
