-- What was read part by part: the other way round from the grammar's `get`.
use Prim.Native.Nat.{ℕ, suc, ◌+◌, ◌-◌, ◌≤◌}
use mathlib.Core.Path.{◌≡◌, refl, sym, ap, ◌∙◌}
use mathlib.Core.Bool.{Bool, true, false}
use mathlib.Core.List.{List, ◌∷◌}
use native.Mathlib.Omega.{arith}
use lib.Dec.{leb}
use lib.ListN.{length, take, drop, length-drop}
use lib.Seq.{drop-drop}
use borrow.Author.Tests.{leb-true}
use Rattle.bits.specs.Bits.{value_of}
use Rattle.rules.proofs.Lists.{All}
use Rattle.plan_file.specs.Format.{Got, Got.short, Got.got, next, Format, field, get_field, pair, counted, seen, gets, gets_back, ReadsAll}

-- A field: its value, and the bits behind it.
pub record FieldParts (w : ℕ) (b : List Bool) (v : ℕ) (r : List Bool) : Type 0 where
  pub room : w ≤ length b
  pub value : v ≡ value_of (take w b)
  pub behind : r ≡ drop w b

pub field_parts : (w : ℕ) (b : List Bool) (v : ℕ) (r : List Bool) → (field w).get b ≡ got v r → FieldParts w b v r
unfolding field get_field
field_parts w b v r = by_room (leb w (length b)) refl
  where
    by_room : (t : Bool) → leb w (length b) ≡ t → get_field w t b ≡ got v r → FieldParts w b v r
    by_room false p e = let z : ◌≡◌ {A = ℕ} 0 1 = cc in absurd (omega arith)
    by_room true p e = record { room = leb-true w (length b) p; value = cc; behind = cc }

-- A pair: the bits between the two.
pub record PairParts {A B : Type 0} (f : Format A) (g : Format B) (b : List Bool) (p : A × B) (r : List Bool) : Type 0 where
  pub between : List Bool
  pub first : f.get b ≡ got p.0 between
  pub second : g.get between ≡ got p.1 r

module _ {A B : Type 0} (f : Format A) (g : Format B) (b : List Bool) (p : A × B) (r : List Bool) where
  pub pair_parts : (pair f g).get b ≡ got p r → PairParts f g b p r
  unfolding pair next
  pair_parts = by_first (f.get b) refl
    where
      by-second : (a : A) (t : List Bool) → f.get b ≡ got a t → (y : Got B) → g.get t ≡ y → next y (λ c s. got (a, c) s) ≡ got p r → PairParts f g b p r
      by-second a t e short d h = let z : ◌≡◌ {A = ℕ} 0 1 = cc in absurd (omega arith)
      by-second a t e (got c s) d h =
          let q : (a, c) ≡ p = cc in
          let x : a ≡ p.0 = ap (λ (k : A × B). k.0) q in
          let y : c ≡ p.1 = ap (λ (k : A × B). k.1) q in
          let z : s ≡ r = cc in
          record { between = t; first = e ∙ ap (λ (k : A). got k t) x; second = d ∙ ap (λ (k : B). got k s) y ∙ ap (got p.1) z }

      by_first : (x : Got A) → f.get b ≡ x → next x (λ a t. next (g.get t) (λ c s. got (a, c) s)) ≡ got p r → PairParts f g b p r
      by_first short e h = let z : ◌≡◌ {A = ℕ} 0 1 = cc in absurd (omega arith)
      by_first (got a t) e h = by-second a t e (g.get t) refl h

-- The same bits seen as another type.
module _ {A B : Type 0} (f : Format A) (to : A → B) (from : B → A) (there : (b : B) → to (from b) ≡ b) (back : (a : A) → from (to a) ≡ a) where
  pub seen_parts : (b : List Bool) (c : B) (r : List Bool) → (seen f to from there back).get b ≡ got c r → f.get b ≡ got (from c) r
  unfolding seen next
  seen_parts b c r = by_value (f.get b) refl
    where
      by_value : (x : Got A) → f.get b ≡ x → next x (λ a t. got (to a) t) ≡ got c r → f.get b ≡ got (from c) r
      by_value short e h = let z : ◌≡◌ {A = ℕ} 0 1 = cc in absurd (omega arith)
      by_value (got a t) e h =
          let q : to a ≡ c = cc in
          let z : t ≡ r = cc in
          let y : a ≡ from c = sym (back a) ∙ ap from q in
          e ∙ ap (λ (k : A). got k t) y ∙ ap (got (from c)) z

-- A field in front of something, at a place.
pub record HeadParts {B : Type 0} (w : ℕ) (g : Format B) (b : List Bool) (at : ℕ) (p : ℕ × B) (r : List Bool) : Type 0 where
  pub room : w ≤ length b - at
  pub value : p.0 ≡ value_of (take w (drop at b))
  pub behind : g.get (drop (at + w) b) ≡ got p.1 r

pub head_parts : {B : Type 0} (w : ℕ) (g : Format B) (b : List Bool) (at : ℕ) (p : ℕ × B) (r : List Bool) → (pair (field w) g).get (drop at b) ≡ got p r → HeadParts w g b at p r
head_parts w g b at p r e =
    let q = pair_parts (field w) g (drop at b) p r e in
    let f = field_parts w (drop at b) p.0 q.between q.first in
    record {
      room = rw length-drop at f.room;
      value = f.value;
      behind = ap g.get (sym (drop-drop w at b)) ∙ ap g.get (sym f.behind) ∙ q.second;
    }

-- A list: as many as were asked for, each of which the format can hold.
module _ {A : Type 0} (f : Format A) (n : ℕ) (b : List Bool) (xs : List A) (r : List Bool) (e : gets f n b ≡ got xs r) where
  pub gets_length : length xs ≡ n
  gets_length = let h : ReadsAll f n b (got xs r) = rw e at (gets_back f n b) in h.1.0

  pub gets_all : All f.In xs
  gets_all = let h : ReadsAll f n b (got xs r) = rw e at (gets_back f n b) in h.1.1

-- A list's count is its length.
pub record CountParts {A : Type 0} (w : ℕ) (f : Format A) (b : List Bool) (xs : List A) (r : List Bool) : Type 0 where
  pub count : (field w).get b ≡ got (length xs) (drop w b)
  pub room : w ≤ length b
  pub list : gets f (length xs) (drop w b) ≡ got xs r

pub count_parts : {A : Type 0} (w : ℕ) (f : Format A) (b : List Bool) (xs : List A) (r : List Bool) → (counted w f).get b ≡ got xs r → CountParts w f b xs r
unfolding counted next
count_parts {A} w f b xs r = by_count ((field w).get b) refl
  where
    by_count : (x : Got ℕ) → (field w).get b ≡ x → next x (gets f) ≡ got xs r → CountParts w f b xs r
    by_count short d e = let z : ◌≡◌ {A = ℕ} 0 1 = cc in absurd (omega arith)
    by_count (got n t) d e =
        let l : length xs ≡ n = gets_length f n t xs r e in
        let p = field_parts w b n t d in
        record {
          count = d ∙ ap (λ (k : ℕ). got k t) (sym l) ∙ ap (got (length xs)) p.behind;
          room = p.room;
          list = rw (l, sym p.behind) e;
        }

-- The first of a list, and the others behind it.
pub record FirstParts {A : Type 0} (f : Format A) (n : ℕ) (b : List Bool) (x : A) (xs : List A) (r : List Bool) : Type 0 where
  pub between : List Bool
  pub first : f.get b ≡ got x between
  pub others : gets f n between ≡ got xs r

module _ {A : Type 0} (f : Format A) (n : ℕ) (b : List Bool) (x : A) (xs : List A) (r : List Bool) where
  pub first_parts : gets f (suc n) b ≡ got (x ∷ xs) r → FirstParts f n b x xs r
  unfolding gets next
  first_parts = by_first (f.get b) refl
    where
      by-others : (a : A) (t : List Bool) → f.get b ≡ got a t → (y : Got (List A)) → gets f n t ≡ y → next y (λ ys s. got (a ∷ ys) s) ≡ got (x ∷ xs) r → FirstParts f n b x xs r
      by-others a t e short d h = let z : ◌≡◌ {A = ℕ} 0 1 = cc in absurd (omega arith)
      by-others a t e (got ys s) d h = record { between = t; first = cc; others = cc }

      by_first : (y : Got A) → f.get b ≡ y → next y (λ a t. next (gets f n t) (λ ys s. got (a ∷ ys) s)) ≡ got (x ∷ xs) r → FirstParts f n b x xs r
      by_first short e h = let z : ◌≡◌ {A = ℕ} 0 1 = cc in absurd (omega arith)
      by_first (got a t) e h = by-others a t e (gets f n t) refl h
