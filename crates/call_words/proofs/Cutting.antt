-- A reply is the words of its emissions, cut out.
use mathlib.Core.Path.{◌≡◌}
use mathlib.Core.List.{List}
use Prim.Native.Nat.{ℕ, ◌+◌, ◌*◌, ◌/◌, ◌-◌, ◌≤◌}
use native.Mathlib.Omega.{arith}
use lib.ListN.{length, get_or, drop, length-take, length-drop}
use borrow.Rule.Slice.PartMut.{mid_of}
use Rattle.reply_words.specs.Emissions.{emissions_of}
use Rattle.reply_words.proofs.Cut.{emissions_cut}

module _ (w : List ℕ) (at : ℕ) where
  abbrev n : ℕ
  n = get_or w (at + 2) 0

  abbrev reply : List ℕ
  reply = mid_of (at + 3) (at + 3 + 8 * n - (at + 3)) w

  pub reply_is : at + (3 + 8 * n) ≤ length w → emissions_of (length reply / 8) reply ≡ emissions_of n (drop (at + 3) w)
  reply_is h = let e : at + 3 + 8 * n - (at + 3) ≡ 8 * n = omega arith in rw (e, cut-length) (emissions_cut (drop (at + 3) w) n)
    where
      cut-length : length (mid_of (at + 3) (8 * n) w) / 8 ≡ n
      cut-length = let z : length (mid_of (at + 3) (8 * n) w) ≡ 8 * n = simp (length-take, length-drop) (omega arith) in omega arith
