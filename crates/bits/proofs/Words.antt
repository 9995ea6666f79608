-- Bytes joined to words, and fields cut out of them.
use Prim.Native.Nat.{ℕ, ◌+◌, ◌-◌, ◌*◌, ◌/◌, ◌%◌, ◌^◌, ◌<◌, ◌≤◌}
use mathlib.Core.Path.{◌≡◌, refl, sym, ap, ◌∙◌}
use mathlib.Core.Bool.{Bool}
use mathlib.Core.List.{List}
use native.Mathlib.Omega.{arith}
use lib.Pow.{shl_exact, pow_mono}
use lib.ListN.{length, take, drop, get_or, length-drop}
use lib.Seq.{drop-drop}
use Rattle.bits.specs.Bits.{value_of}
use Rattle.bits.specs.Bytes.{stream}
use Rattle.bits.proofs.Fields.{value_take, value_two, slice}
use Rattle.bits.proofs.Streams.{length_stream, value_more}
use Rattle.bits.proofs.Room.{cut_out}

module _ (s : List ℕ) where
  abbrev b : List Bool
  b = stream s

  byte : (i : ℕ) → i < length s → get_or s i 0 < 256 → value_of (take 8 (drop (i * 8) b)) ≡ get_or s i 0
  unfolding value_of
  byte i h l = omega (arith, value_more s i 0 8 0 h refl (i * 8) 0 refl)

  -- A byte in front of n bits.
  bytes_more : (i n : ℕ) → i < length s → get_or s i 0 < 256 → i * 8 + (8 + n) ≤ length s * 8
      → value_of (take (8 + n) (drop (i * 8) b)) ≡ get_or s i 0 * 2 ^ n + value_of (take n (drop ((i + 1) * 8) b))
  bytes_more i n h l r =
      let m : i * 8 + 8 ≡ (i + 1) * 8 = omega arith in
      let f : 8 + n ≤ length (drop (i * 8) b) = rw (length-drop, length_stream) (omega arith) in
      value_two (drop (i * 8) b) 8 n f ∙ rw (byte i h l, drop-drop 8 (i * 8) b, m)

  -- Four bytes.
  module _ (i : ℕ) (h : i + 4 ≤ length s) (each : (k : ℕ) → get_or s k 0 < 256) where
    pub four_is : value_of (take 32 (drop (i * 8) b)) ≡ get_or s i 0 * 2 ^ 24 + (get_or s (i + 1) 0 * 2 ^ 16 + (get_or s (i + 2) 0 * 2 ^ 8 + get_or s (i + 3) 0))
    four_is =
        let e₂ : i + 1 + 1 ≡ i + 2 = omega arith in
        let e₃ : i + 2 + 1 ≡ i + 3 = omega arith in
        let x = bytes_more i 24 (omega arith) (each i) (omega arith) in
        let y = bytes_more (i + 1) 16 (omega arith) (each (i + 1)) (omega arith) in
        let z = bytes_more (i + 2) 8 (omega arith) (each (i + 2)) (omega arith) in
        let u = byte (i + 3) (omega arith) (each (i + 3)) in
        omega (arith, x, rw e₂ at y, rw e₃ at z, u)

  -- Two fields of up to 32 bits: the second has 32.
  module _ (at n : ℕ) (l : n ≤ 32) (h : at + n + 32 ≤ length s * 8) (p q : ℕ) (ep : p ≡ value_of (take n (drop at b))) (eq : q ≡ value_of (take 32 (drop (at + n) b))) where
    two_is : (p * 2 ^ 32) % 2 ^ 64 + q ≡ value_of (take (n + 32) (drop at b))
    two_is =
        let k : p < 2 ^ n = rw ep (value_take n (drop at b)) in
        let f : n + 32 ≤ length (drop at b) = rw (length-drop, length_stream) (omega arith) in
        let v = value_two (drop at b) n 32 f in
        ap (λ (j : ℕ). j + q) (shl_exact n 32 64 k (omega arith)) ∙ sym (v ∙ rw (drop-drop n at b, sym ep, sym eq))

    pub two_fits : (p * 2 ^ 32) % 2 ^ 64 + q < 2 ^ 64
    two_fits =
        let m : n + 32 ≤ 64 = omega arith in
        omega (arith, two_is, value_take (n + 32) (drop at b), pow_mono m)

    pub two : (w : ℕ) → n + 32 ≡ w → (p * 2 ^ 32) % 2 ^ 64 + q ≡ value_of (take w (drop at b))
    two w e = rw e at two_is

  -- A field out of the word that begins with its first byte.
  pub within : (at w v : ℕ) → 0 < w → w ≤ 32 → at / 8 * 8 + 64 ≤ length s * 8 → v ≡ value_of (take 64 (drop (at / 8 * 8) b))
      → (v * 2 ^ (at % 8)) % 2 ^ 64 / 2 ^ (64 - w) ≡ value_of (take w (drop at b))
  within at w v z l h e =
      let o : ℕ = at % 8 in
      let r : ℕ = 64 - o - w in
      let y : List Bool = drop (at / 8 * 8) b in
      let up : 64 - r - w ≡ o = omega arith in
      let c : o + (w + r) ≡ 64 = omega arith in
      let a : at / 8 * 8 + o ≡ at = omega arith in
      let f : o + (w + r) ≤ length y = rw (length-drop, length_stream) (omega arith) in
      let g : (v * 2 ^ o) % 2 ^ 64 / 2 ^ (64 - w) ≡ v / 2 ^ r % 2 ^ w = rw up at (cut_out v r w (omega arith)) in
      let t : value_of (take 64 y) / 2 ^ r % 2 ^ w ≡ value_of (take w (drop o y)) = rw c at (slice y o w r f) in
      g ∙ ap (λ (k : ℕ). k / 2 ^ r % 2 ^ w) e ∙ t ∙ ap (λ (k : List Bool). value_of (take w k)) (drop-drop o (at / 8 * 8) b ∙ ap (λ (k : ℕ). drop k b) a)

  -- Eight bytes are twice four.
  module _ (i : ℕ) (h : i + 8 ≤ length s) (p q : ℕ) (ep : p ≡ value_of (take 32 (drop (i * 8) b))) (eq : q ≡ value_of (take 32 (drop ((i + 4) * 8) b))) where
    low_half : q ≡ value_of (take 32 (drop (i * 8 + 32) b))
    low_half = let m : (i + 4) * 8 ≡ i * 8 + 32 = omega arith in rw m at eq

    pub word_fits : (p * 2 ^ 32) % 2 ^ 64 + q < 2 ^ 64
    word_fits = two_fits (i * 8) 32 (omega arith) (omega arith) p q ep low_half

    pub word : (p * 2 ^ 32) % 2 ^ 64 + q ≡ value_of (take 64 (drop (i * 8) b))
    word = two (i * 8) 32 (omega arith) (omega arith) p q ep low_half 64 refl

pub no_bits : (w : ℕ) (x : List Bool) → w ≡ 0 → 0 ≡ value_of (take w x)
unfolding value_of
no_bits w x z = rw z
