-- Zeros behind a listing.
use mathlib.Core.Path.{◌≡◌, refl, ap, ◌∙◌}
use mathlib.Core.Bool.{Bool, true, false}
use mathlib.Core.List.{List, ◌++◌, append-nil}
use Prim.Native.Nat.{ℕ, ◌-◌, ◌≤◌, ◌<◌}
use native.Mathlib.Omega.{arith}
use lib.ListN.{length, take, drop_of_length-le}
use Rattle.words.specs.Words.{zeroes, cleared}
use Rattle.plan_text.specs.Appends.{Listed, Finishes, Holds}

-- Up to the end of the bytes nothing is behind the zeros.
behind_none : (from : ℕ) (w : List ℕ) → cleared from (length w) w ≡ take from w ++ zeroes (length w - from)
unfolding cleared
behind_none from w = let h : length w ≤ length w = omega arith in rw (drop_of_length-le w h, append-nil)

pub finishes_fits : (w new : List ℕ) (at : ℕ) → at ≤ length w → new ≡ cleared at (length w) w → Finishes w at new true
finishes_fits w new at h e = record { fits = λ k. (refl, e ∙ behind_none at w); full = λ k. absurd (omega arith) }

pub finishes_full : (w new : List ℕ) (at : ℕ) → length w < at → new ≡ cleared 0 (length w) w → Finishes w at new false
finishes_full w new at h e = record {
  fits = λ k. absurd (omega arith);
  full = λ k. let z : length w - 0 ≡ length w = omega arith in (refl, e ∙ behind_none 0 w ∙ rw z);
}

-- A listing that is finished: the slice holds it, or nothing but zeros.
pub finished : (old new text : List ℕ) (at : ℕ) (r : Bool) → Listed old at text → Finishes old at new r → Holds (length old) text new r
finished old new text at r z f = record {
  fits = λ h.
      let g = z.fits h in
      let e : at ≡ length text = g.0 in
      let k = f.fits (omega arith) in
      (k.0, k.1 ∙ ap (λ (v : List ℕ). v ++ zeroes (length old - at)) g.1 ∙ ap (λ j. text ++ zeroes (length old - j)) e);
  full = λ h. f.full (z.full h);
}
