-- Bytes as bits: their number, both ways, and a byte cut in three.
use Prim.Native.Nat.{ℕ, zero, suc, ◌+◌, ◌*◌, ◌/◌, ◌%◌, ◌^◌, ◌<◌, ◌≤◌}
use mathlib.Core.Path.{◌≡◌, refl, sym, ap, ◌∙◌}
use mathlib.Core.Bool.{Bool}
use mathlib.Core.List.{List, [], ◌∷◌, ◌++◌, append_assoc}
use native.Mathlib.Omega.{arith}
use native.Mathlib.Nat.{mod-eq_of_lt}
use lib.ListN.{length, take, drop, get_or, length-append, length-drop, take-append-drop}
use lib.Seq.{split_at, take_at, drop_at, take-add, drop-drop, length-take-le}
use Rattle.bits.specs.Bits.{bits_of, value_of}
use Rattle.bits.specs.Bytes.{stream, pack, Bytes}
use Rattle.bits.proofs.Fields.{length_bits, bits_split, value_bits, bits_value, value_append}

pub length_stream : (xs : List ℕ) → length (stream xs) ≡ length xs * 8
unfolding stream
length_stream [] = refl
length_stream (x ∷ xs) =
    let t : length (bits_of 8 x ++ stream xs) ≡ suc (length xs) * 8 = rw (length-append, length_bits) (omega (arith, length_stream xs)) in
    t

pub stream_append : (xs ys : List ℕ) → stream (xs ++ ys) ≡ stream xs ++ stream ys
unfolding stream
stream_append [] ys = refl
stream_append (x ∷ xs) ys =
    let t : bits_of 8 x ++ stream (xs ++ ys) ≡ (bits_of 8 x ++ stream xs) ++ stream ys = rw (append_assoc, stream_append xs ys) in
    t

pub stream_pack : (n : ℕ) (b : List Bool) → length b ≡ n * 8 → stream (pack n b) ≡ b
unfolding pack stream
stream_pack zero [] h = refl
stream_pack zero (x ∷ b) h = absurd (omega arith)
stream_pack (suc n) b h =
    let g : 8 ≤ length b = omega arith in
    let e : length (take 8 b) ≡ 8 = length-take-le 8 b g in
    let f : bits_of 8 (value_of (take 8 b)) ≡ take 8 b = rw e at (bits_value (take 8 b)) in
    let m : length (drop 8 b) ≡ n * 8 = rw length-drop (omega arith) in
    let t : bits_of 8 (value_of (take 8 b)) ++ stream (pack n (drop 8 b)) ≡ b = rw (f, stream_pack n (drop 8 b) m) (take-append-drop 8 b) in
    t

pub pack_stream : (s : List ℕ) → Bytes s → pack (length s) (stream s) ≡ s
unfolding pack stream
pack_stream [] h = refl
pack_stream (x ∷ xs) h =
    let e = length_bits 8 x in
    let v : value_of (bits_of 8 x) ≡ x = value_bits 8 x ∙ mod-eq_of_lt h.0 in
    let t : value_of (take 8 (bits_of 8 x ++ stream xs)) ∷ pack (length xs) (drop 8 (bits_of 8 x ++ stream xs)) ≡ x ∷ xs
    = rw (take_at (bits_of 8 x) (stream xs) 8 e, drop_at (bits_of 8 x) (stream xs) 8 e, v, pack_stream xs h.1) in
    t

-- The bits around t bits of the byte at i: o bits of it stand before them and r behind.
module _ (s : List ℕ) (i o t r : ℕ) (h : i < length s) (e : o + (t + r) ≡ 8) where
  abbrev pub front : List Bool
  front = stream (take i s) ++ bits_of o (get_or s i 0 / 2 ^ (t + r))

  abbrev pub behind : List Bool
  behind = bits_of r (get_or s i 0) ++ stream (drop (suc i) s)

  pub length_front : length front ≡ i * 8 + o
  length_front =
      let f : i ≤ length s = omega arith in
      rw (length-append, length_stream, length_bits, length-take-le i s f)

  pub cut : stream s ≡ front ++ (bits_of t (get_or s i 0 / 2 ^ r) ++ behind)
  unfolding stream
  cut =
      let x = get_or s i 0 in
      let b : bits_of 8 x ≡ bits_of o (x / 2 ^ (t + r)) ++ (bits_of t (x / 2 ^ r) ++ bits_of r x)
      = ap (λ (k : ℕ). bits_of k x) (sym e) ∙ bits_split o (t + r) x ∙ ap (λ (l : List Bool). bits_of o (x / 2 ^ (t + r)) ++ l) (bits_split t r x) in
      ap stream (split_at s i 0 h) ∙ stream_append (take i s) (x ∷ drop (suc i) s)
      ∙ ap (λ (l : List Bool). stream (take i s) ++ (l ++ stream (drop (suc i) s))) b
      ∙ simp append_assoc

  pub part : take t (drop (i * 8 + o) (stream s)) ≡ bits_of t (get_or s i 0 / 2 ^ r)
  part = rw (cut, drop_at front (bits_of t (get_or s i 0 / 2 ^ r) ++ behind) (i * 8 + o) length_front) (take_at (bits_of t (get_or s i 0 / 2 ^ r)) behind t (length_bits t _))

  -- So many more bits behind those read so far.
  pub value_more : (at n : ℕ) → at + n ≡ i * 8 + o
      → value_of (take (n + t) (drop at (stream s))) ≡ value_of (take n (drop at (stream s))) * 2 ^ t + get_or s i 0 / 2 ^ r % 2 ^ t
  value_more at n g =
      rw (take-add n t (drop at (stream s)), drop-drop n at (stream s), g, part, value_append, length_bits, value_bits)
