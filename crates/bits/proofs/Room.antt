-- The number read so far: room for t bits more; and bits cut out by two shifts.
use Prim.Native.Nat.{ℕ, suc, ◌+◌, ◌-◌, ◌*◌, ◌/◌, ◌%◌, ◌^◌, ◌<◌, ◌≤◌}
use mathlib.Core.Path.{◌≡◌, sym, ap, ◌∙◌}
use mathlib.Core.Bool.{Bool}
use mathlib.Core.List.{List}
use native.Mathlib.Nat.{mul-le-mul_right, mod-eq_of_lt, mod-lt}
use native.Mathlib.Omega.{arith}
use lib.Pow.{pow_pos, pow-add, pow_mono, field, shr-shr, shl-shr}
use lib.ListN.{length}
use Rattle.bits.specs.Bits.{value_of}
use Rattle.bits.proofs.Fields.{value_lt}

pub room : (l : List Bool) (t : ℕ) (a : ℕ) → a ≡ value_of l → length l + t ≤ 64 → a * 2 ^ t + 2 ^ t ≤ 2 ^ 64
room l t a e h =
    let f : suc a ≤ 2 ^ length l = omega (arith, value_lt l) in
    omega (arith, mul-le-mul_right (2 ^ t) f, pow-add 2 (length l) t, pow_mono h)

-- Up by what stands above them and down again: the t bits of x above its r lowest.
pub cut_out : (x r t : ℕ) → r + t ≤ 64 → (x * 2 ^ (64 - r - t)) % 2 ^ 64 / 2 ^ (64 - t) ≡ x / 2 ^ r % 2 ^ t
cut_out x r t h =
    let up : ℕ = 64 - r - t in
    let down : ℕ = 64 - t in
    let e : t + down ≡ 64 = omega arith in
    let d : up + r ≡ down = omega arith in
    let f : (x * 2 ^ up) % 2 ^ (t + down) / 2 ^ down ≡ (x * 2 ^ up) / 2 ^ down % 2 ^ t = field (x * 2 ^ up) t down in
    let g : (x * 2 ^ up) / 2 ^ (up + r) ≡ x / 2 ^ r = sym (shr-shr (x * 2 ^ up) up r) ∙ ap (λ (y : ℕ). y / 2 ^ r) (shl-shr x up) in
    rw e at f ∙ ap (λ (y : ℕ). y % 2 ^ t) (rw d at g)

-- Two shifts and a sum: it fits, and appends the bits.
module _ (acc x r t : ℕ) (h : r + t ≤ 64) (room : acc * 2 ^ t + 2 ^ t ≤ 2 ^ 64) where
  abbrev appended : ℕ
  appended = (acc * 2 ^ t) % 2 ^ 64 + (x * 2 ^ (64 - r - t)) % 2 ^ 64 / 2 ^ (64 - t)

  pub append_is : appended ≡ acc * 2 ^ t + x / 2 ^ r % 2 ^ t
  append_is =
      let z : 0 < 2 ^ t = pow_pos t in
      let l : acc * 2 ^ t < 2 ^ 64 = omega arith in
      rw (cut_out x r t h, mod-eq_of_lt l)

  pub append_fits : appended < 2 ^ 64
  append_fits =
      let l : x / 2 ^ r % 2 ^ t < 2 ^ t = mod-lt (x / 2 ^ r) (pow_pos t) in
      rw append_is (omega arith)
