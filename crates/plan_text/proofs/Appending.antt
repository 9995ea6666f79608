-- Text behind the first bytes of a lent slice: copied there, or without room; one text behind another; and what that makes of a listing.
use mathlib.Core.Path.{◌≡◌, refl, sym, ap, ◌∙◌}
use mathlib.Core.Logic.{⊎_elim}
use mathlib.Core.List.{List, [], ◌++◌, append-nil, append_assoc}
use Prim.Native.Nat.{ℕ, ◌+◌, ◌≤◌, ◌<◌}
use native.Mathlib.Omega.{arith}
use lib.ListN.{length, take, length-append}
use lib.Seq.{take_all, take-take}
use Rattle.types.proofs.Halves.{lt_or_ge}
use Rattle.plan_text.specs.Appends.{Appends, Listed}

pub append_none : (w : List ℕ) (at : ℕ) → Appends w at [] w at
append_none w at = record {
  same = refl;
  kept = refl;
  fits = λ h. (omega arith, sym (append-nil (take at w)));
  full = λ h. omega arith;
}

-- What was kept up to m is kept up to k as well.
less_kept : (k m : ℕ) (v w : List ℕ) → k ≤ m → take m v ≡ take m w → take k v ≡ take k w
less_kept k m v w h e = sym (take-take k m v h) ∙ ap (λ (u : List ℕ). take k u) e ∙ take-take k m w h

-- One text, and one behind it.
module _ (a b c first second : List ℕ) (at middle r : ℕ) (p : Appends a at first b middle) (q : Appends b middle second c r) where
  sum : length (first ++ second) ≡ length first + length second
  sum = length-append first second

  both_kept : take at c ≡ take at a
  both_kept = ⊎_elim
      (λ (h : length a < at + length first).
      let g : length a < middle = p.full h in
      let s : length b ≡ length a = p.same in
      let t : length c ≡ length b = q.same in
      let x : length c ≤ middle = omega arith in
      let y : length b ≤ middle = omega arith in
      let e : c ≡ b = sym (take_all middle c x) ∙ q.kept ∙ take_all middle b y in
      ap (λ (v : List ℕ). take at v) e ∙ p.kept)
      (λ (h : at + length first ≤ length a).
      let m : middle ≡ at + length first = (p.fits h).0 in
      less_kept at middle c b (omega arith) q.kept ∙ p.kept)
      (lt_or_ge (length a) (at + length first))

  both_full : length a < at + length (first ++ second) → length a < r
  both_full h =
      let s : length b ≡ length a = p.same in
      let g : length b < middle + length second = ⊎_elim
      (λ (k : length a < at + length first). let f : length a < middle = p.full k in omega arith)
      (λ (k : at + length first ≤ length a). let m : middle ≡ at + length first = (p.fits k).0 in omega (arith, sum))
      (lt_or_ge (length a) (at + length first)) in
      let f : length b < r = q.full g in
      omega arith

  pub append_both : Appends a at (first ++ second) c r
  append_both = record {
    same = q.same ∙ p.same;
    kept = both_kept;
    fits = λ h.
        let s : length b ≡ length a = p.same in
        let f = p.fits (omega (arith, sum)) in
        let m : middle ≡ at + length first = f.0 in
        let g = q.fits (omega (arith, sum)) in
        let n : r ≡ middle + length second = g.0 in
        (omega (arith, sum), g.1 ∙ ap (λ (v : List ℕ). v ++ second) f.1 ∙ append_assoc (take at a) first second);
    full = both_full;
  }

-- A listing begins with nothing in it.
pub listed_none : (out : List ℕ) → Listed out 0 []
listed_none out = record { fits = λ h. (refl, refl); full = λ h. absurd (omega arith) }

module _ (old new t l : List ℕ) (at r : ℕ) (z : Listed old at t) (p : Appends old at l new r) where
  -- It goes on with what is written behind it.
  pub listed_more : Listed new r (t ++ l)
  listed_more = record {
    fits = λ h.
        let s : length new ≡ length old = p.same in
        let y : length (t ++ l) ≡ length t + length l = length-append t l in
        let f = z.fits (omega arith) in
        let e : at ≡ length t = f.0 in
        let g = p.fits (omega arith) in
        let k : r ≡ at + length l = g.0 in
        (omega arith, g.1 ∙ ap (λ (v : List ℕ). v ++ l) f.1);
    full = λ h.
        let s : length new ≡ length old = p.same in
        let y : length (t ++ l) ≡ length t + length l = length-append t l in
        let g : length old < at + length l = ⊎_elim
        (λ (k : length old < length t). let f : length old < at = z.full k in omega arith)
        (λ (k : length t ≤ length old). let e : at ≡ length t = (z.fits k).0 in omega arith)
        (lt_or_ge (length old) (length t)) in
        let f : length old < r = p.full g in
        omega arith;
  }

  -- And stays what it was up to there: a batch that is refused is not listed.
  pub listed_kept : Listed new at t
  listed_kept = record {
    fits = λ h. let s : length new ≡ length old = p.same in let f = z.fits (omega arith) in (f.0, p.kept ∙ f.1);
    full = λ h. let s : length new ≡ length old = p.same in let f : length old < at = z.full (omega arith) in omega arith;
  }
