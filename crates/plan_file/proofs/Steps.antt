-- A walk goes on where a step ended, or stops with it.
use Prim.Native.Nat.{ℕ, suc, ◌+◌, ◌-◌, ◌<◌, ◌≤◌}
use mathlib.Core.Path.{◌≡◌, refl, sym, ap, ◌∙◌}
use mathlib.Core.Bool.{Bool, true, false}
use mathlib.Core.List.{List}
use native.Mathlib.Omega.{arith}
use Rattle.std.proofs.Common.{Option, Some, None, min}
use lib.ListN.{length, take, drop, length-drop}
use lib.Seq.{drop-drop}
use lib.Dec.{leb}
use borrow.Author.Tests.{leb-true, leb-false, le-leb, lt-leb}
use Rattle.bits.specs.Bits.{value_of}
use Rattle.plan_file.specs.Format.{Got, Got.short, Got.got, next, field, get_field}
use Rattle.plan_file.specs.Walked.{skipped, Walked, CountsBy}
use Rattle.plan_file.proofs.Walk.{skip_some, skip_short, field_short, field_some}
use Rattle.plan_file.specs.Onward.{onward}

module _ {b : List Bool} {x : Got (Unit {0})} {r : Option ℕ} (w : Walked b x r) (y : Got (Unit {0})) (j : List Bool → Got (Unit {0})) (e : y ≡ onward x j) where
  pub walk_short : r ≡ None → Walked b y None
  unfolding onward
  walk_short s =
      let x-is : short ≡ x = rw s at w.ends in
      record { ends = sym (e ∙ rw (sym x-is)); inside = tt }

pub walk_in : {b : List Bool} {x : Got (Unit {0})} {r : Option ℕ} → Walked b x r → (p : ℕ) → r ≡ Some p → p ≤ length b
walk_in w p s = rw s at w.inside

-- The steps themselves.
module _ (b : List Bool) (at w : ℕ) (h : at ≤ length b) where
  pub skip_at : w ≤ length b - at → Walked b (skipped w (drop at b)) (Some (at + w))
  skip_at l =
      let d : w ≤ length (drop at b) = rw length-drop l in
      record { ends = sym (skip_some w (drop at b) d ∙ ap (got tt) (drop-drop w at b)); inside = omega arith }

  pub skip_not : length b - at < w → Walked b (skipped w (drop at b)) None
  skip_not l =
      let d : length (drop at b) < w = rw length-drop l in
      record { ends = sym (skip_short w (drop at b) d); inside = tt }

-- A loop over a list: what is left of it reads as the whole did.
module _ (one : List Bool → Got (Unit {0})) (many : ℕ → List Bool → Got (Unit {0})) (none : (x : List Bool) → many 0 x ≡ got tt x) (more : (n : ℕ) (x : List Bool) → many (suc n) x ≡ onward (one x) (many n)) (b : List Bool) where
  one_less : (n i : ℕ) (x : List Bool) → i < n → many (n - i) x ≡ onward (one x) (many (n - (i + 1)))
  one_less n i x h = let e : n - i ≡ suc (n - (i + 1)) = omega arith in rw e (more (n - (i + 1)) x)

  module _ (whole : Got (Unit {0})) (n i p : ℕ) (inv : whole ≡ many (n - i) (drop p b)) where
    module _ {r : Option ℕ} (h : i < n) (w : Walked b (one (drop p b)) r) where
      pub many_short : r ≡ None → Walked b whole None
      many_short s = walk_short w whole _ (inv ∙ one_less n i (drop p b) h) s

      pub many_on : (q : ℕ) → r ≡ Some q → whole ≡ many (n - (i + 1)) (drop q b)
      unfolding onward
      many_on q s =
          let x-is : got tt (drop q b) ≡ one (drop p b) = rw s at w.ends in
          inv ∙ one_less n i (drop p b) h ∙ rw (sym x-is)

    pub many_end : i ≡ n → p ≤ length b → Walked b whole (Some p)
    many_end z l = let e : n - i ≡ 0 = omega arith in record { ends = sym (inv ∙ rw e (none (drop p b))); inside = l }

-- More bits than there are: as if there were only so many.
pub skip_capped : (w m : ℕ) (x : List Bool) → length x < m → skipped (min w m) x ≡ skipped w x
skip_capped w m x h = by_length (leb w m) refl
  where
    by_length : (t : Bool) → leb w m ≡ t → skipped (min w m) x ≡ skipped w x
    by_length true p =
        let l : w ≤ m = leb-true w m p in
        let e : min w m ≡ w = omega arith in
        rw e
    by_length false p =
        let l : m < w = leb-false w m p in
        let e : min w m ≡ m = omega arith in
        let g : length x < w = omega arith in
        rw (e, skip_short m x h, skip_short w x g)

-- A record that begins with v bits to pass over and a field of w bits.
module _ (b : List Bool) (at v w : ℕ) (h : at ≤ length b) (whole : Got (Unit {0})) (k : ℕ → List Bool → Got (Unit {0})) (e : whole ≡ onward (skipped v (drop at b)) (λ r. next ((field w).get r) k)) where
  pub lead_short : length b - at < v + w → Walked b whole None
  lead_short l =
      let d : length (drop at b) < v + w = rw length-drop l in
      record { ends = sym (e ∙ field_short v w (drop at b) k d); inside = tt }

  pub lead_on : v + w ≤ length b - at → (n : ℕ) → n ≡ value_of (take w (drop (at + v) b)) → (r : Option ℕ) → Walked b (k n (drop (at + (v + w)) b)) r → Walked b whole r
  lead_on l n m r t =
      let d : v + w ≤ length (drop at b) = rw length-drop l in
      let f : whole ≡ k (value_of (take w (drop v (drop at b)))) (drop (v + w) (drop at b)) = e ∙ field_some v w (drop at b) k d in
      let g : whole ≡ k n (drop (at + (v + w)) b) = f ∙ rw (drop-drop v at b, drop-drop (v + w) at b, m) in
      record { ends = t.ends ∙ sym g; inside = t.inside }

-- A list with its count in front.
module _ (walk : ℕ → List Bool → Got (Unit {0})) (b : List Bool) (at : ℕ) (h : at ≤ length b) where
  pub list_short : length b - at < 10 → CountsBy walk b at None
  unfolding next field get_field
  list_short l =
      let d : length (drop at b) < 10 = rw length-drop l in
      rw (lt-leb 10 (length (drop at b)) d)

  module _ (l : 10 ≤ length b - at) (n : ℕ) (m : n ≡ value_of (take 10 (drop at b))) where
    count_is : (field 10).get (drop at b) ≡ got n (drop (at + 10) b)
    unfolding field get_field
    count_is =
        let d : 10 ≤ length (drop at b) = rw length-drop l in
        rw (le-leb 10 (length (drop at b)) d, drop-drop 10 at b, m)

    module _ {r : Option ℕ} (w : Walked b (walk n (drop (at + 10) b)) r) where
      pub list_cut : r ≡ None → CountsBy walk b at None
      unfolding next
      list_cut s =
          let x-is : short ≡ walk n (drop (at + 10) b) = rw s at w.ends in
          rw count_is (sym x-is)

      pub list_on : (next : ℕ) → r ≡ Some next → CountsBy walk b at (Some (record { count = n; first = at + 10; next = next }))
      list_on next s =
          let x-is : got tt (drop next b) ≡ walk n (drop (at + 10) b) = rw s at w.ends in
          record { count = count_is; starts = refl; ends = sym x-is; first_inside = omega arith; inside = rw s at w.inside }
