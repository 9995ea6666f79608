-- Where reading ends: laws of `rest` and `skipped` for each form of the grammar.
use Prim.Native.Nat.{ℕ, zero, suc, ◌+◌, ◌*◌, ◌<◌, ◌≤◌}
use mathlib.Core.Path.{◌≡◌, refl, sym, ap, ◌∙◌}
use mathlib.Core.Bool.{Bool, true, false}
use mathlib.Core.List.{List}
use native.Mathlib.Omega.{arith}
use lib.Dec.{leb}
use lib.ListN.{length, take, drop, length-drop}
use Rattle.bits.specs.Bits.{value_of}
use lib.Seq.{drop-drop}
use borrow.Author.Tests.{leb-true, leb-false, le-leb, lt-leb}
use Rattle.plan_file.specs.Format.{Got, Got.short, Got.got, next, Format, field, get_field, pair, counted, seen, gets}
use Rattle.plan_file.specs.Walked.{rest, skipped}
use Rattle.plan_file.specs.Onward.{onward, rest_next, rest_same, rest_gets}

pub rest_pair : {A B : Type 0} (f : Format A) (g : Format B) (b : List Bool) → rest ((pair f g).get b) ≡ onward (rest (f.get b)) (λ r. rest (g.get r))
unfolding pair
rest_pair f g b = rest_next (f.get b) _ _ (λ a r. rest_same (g.get r) (λ c. (a, c)))

pub rest_seen : {A B : Type 0} (f : Format A) (to : A → B) (from : B → A) (p : (b : B) → to (from b) ≡ b) (q : (a : A) → from (to a) ≡ a) (b : List Bool)
    → rest ((seen f to from p q).get b) ≡ rest (f.get b)
unfolding seen
rest_seen f to from p q b = rest_same (f.get b) to

pub skip_some : (w : ℕ) (b : List Bool) → w ≤ length b → skipped w b ≡ got tt (drop w b)
unfolding skipped rest field get_field
skip_some w b h = rw (le-leb w (length b) h)

pub skip_short : (w : ℕ) (b : List Bool) → length b < w → skipped w b ≡ short
unfolding skipped rest field get_field
skip_short w b h = rw (lt-leb w (length b) h)

pub skip_add : (v w : ℕ) (b : List Bool) → onward (skipped v b) (skipped w) ≡ skipped (v + w) b
unfolding onward
skip_add v w b = by_length (leb v (length b)) (leb (v + w) (length b)) refl refl
  where
    by_length : (t u : Bool) → leb v (length b) ≡ t → leb (v + w) (length b) ≡ u → onward (skipped v b) (skipped w) ≡ skipped (v + w) b
    by_length false u p q =
        let h : length b < v = leb-false v (length b) p in
        let g : length b < v + w = omega arith in
        rw (skip_short v b h, skip_short (v + w) b g)
    by_length true false p q =
        let h : v ≤ length b = leb-true v (length b) p in
        let g : length b < v + w = leb-false (v + w) (length b) q in
        let d : length (drop v b) < w = rw length-drop (omega arith) in
        rw (skip_some v b h, skip_short (v + w) b g) (skip_short w (drop v b) d)
    by_length true true p q =
        let h : v ≤ length b = leb-true v (length b) p in
        let g : v + w ≤ length b = leb-true (v + w) (length b) q in
        let d : w ≤ length (drop v b) = rw length-drop (omega arith) in
        rw (skip_some v b h, skip_some (v + w) b g) (skip_some w (drop v b) d ∙ ap (got tt) (drop-drop w v b))

-- A format whose values all have w bits: passed over at once, and so is a list of them.
abbrev pub Fixed : {A : Type 0} → ℕ → Format A → Type 0
Fixed w f = (b : List Bool) → rest (f.get b) ≡ skipped w b

pub onward_same : {A : Type 0} (x : Got A) (j k : List Bool → Got (Unit {0})) → ((r : List Bool) → j r ≡ k r) → onward x j ≡ onward x k
unfolding onward
onward_same short j k h = refl
onward_same (got a r) j k h = h r

pub fixed_field : (w : ℕ) → Fixed w (field w)
unfolding skipped
fixed_field w b = refl

pub fixed_pair : {A B : Type 0} (f : Format A) (g : Format B) (v w : ℕ) → Fixed v f → Fixed w g → Fixed (v + w) (pair f g)
fixed_pair f g v w p q b =
    rest_pair f g b ∙ ap (λ (x : Got (Unit {0})). onward x (λ r. rest (g.get r))) (p b) ∙ onward_same (skipped v b) _ (skipped w) q ∙ skip_add v w b

pub fixed_gets : {A : Type 0} (f : Format A) (w : ℕ) → Fixed w f → (n : ℕ) (b : List Bool) → rest (gets f n b) ≡ skipped (n * w) b
unfolding gets rest
fixed_gets f w p zero b =
    let z : zero ≤ length b = omega arith in
    let e : zero * w ≡ zero = omega arith in
    rw e (sym (skip_some zero b z))
fixed_gets f w p (suc n) b =
    let e : w + n * w ≡ suc n * w = omega arith in
    rest_gets f n b ∙ ap (λ (x : Got (Unit {0})). onward x (λ r. rest (gets f n r))) (p b) ∙ onward_same (skipped w b) _ (skipped (n * w)) (fixed_gets f w p n)
    ∙ skip_add w (n * w) b ∙ ap (λ (k : ℕ). skipped k b) e

-- What is passed over first, and what follows.
pub onward_onward : (x : Got (Unit {0})) (i j : List Bool → Got (Unit {0})) → onward (onward x i) j ≡ onward x (λ r. onward (i r) j)
unfolding onward
onward_onward short i j = refl
onward_onward (got a r) i j = refl

pub skip_skip : (v w : ℕ) (b : List Bool) (j : List Bool → Got (Unit {0})) → onward (skipped v b) (λ r. onward (skipped w r) j) ≡ onward (skipped (v + w) b) j
skip_skip v w b j = sym (onward_onward (skipped v b) (skipped w) j) ∙ ap (λ (x : Got (Unit {0})). onward x j) (skip_add v w b)

pub rest_fixed : {A B : Type 0} (f : Format A) (g : Format B) (w : ℕ) → Fixed w f → (b : List Bool) → rest ((pair f g).get b) ≡ onward (skipped w b) (λ r. rest (g.get r))
rest_fixed f g w p b = rest_pair f g b ∙ ap (λ (x : Got (Unit {0})). onward x (λ r. rest (g.get r))) (p b)

-- A count, and then what it counts.
pub rest_into : {A B : Type 0} (x : Got A) (k : A → List Bool → Got B) → rest (next x k) ≡ next x (λ a r. rest (k a r))
unfolding rest next
rest_into short k = refl
rest_into (got a r) k = refl

pub rest_counted : {A : Type 0} (w : ℕ) (f : Format A) (b : List Bool) → rest ((counted w f).get b) ≡ next ((field w).get b) (λ n r. rest (gets f n r))
unfolding counted
rest_counted w f b = rest_into ((field w).get b) (gets f)

pub next_same : {A B : Type 0} (x : Got A) (j k : A → List Bool → Got B) → ((a : A) (r : List Bool) → j a r ≡ k a r) → next x j ≡ next x k
unfolding next
next_same short j k h = refl
next_same (got a r) j k h = h a r

pub rest_run : {A : Type 0} (v : ℕ) (f : Format A) (w : ℕ) → Fixed w f → (b : List Bool) → rest ((counted v f).get b) ≡ next ((field v).get b) (λ n r. skipped (n * w) r)
rest_run v f w p b = rest_counted v f b ∙ next_same ((field v).get b) _ _ (fixed_gets f w p)

-- A field behind v bits that are passed over.
module _ (v w : ℕ) (x : List Bool) (k : ℕ → List Bool → Got (Unit {0})) where
  pub field_short : length x < v + w → onward (skipped v x) (λ r. next ((field w).get r) k) ≡ short
  unfolding onward next field get_field
  field_short h = by_length (leb v (length x)) refl
    where
      by_length : (t : Bool) → leb v (length x) ≡ t → onward (skipped v x) (λ r. next ((field w).get r) k) ≡ short
      by_length false p =
          let g : length x < v = leb-false v (length x) p in
          rw (skip_short v x g)
      by_length true p =
          let g : v ≤ length x = leb-true v (length x) p in
          let d : length (drop v x) < w = rw length-drop (omega arith) in
          rw (skip_some v x g, lt-leb w (length (drop v x)) d)

  pub field_some : v + w ≤ length x → onward (skipped v x) (λ r. next ((field w).get r) k) ≡ k (value_of (take w (drop v x))) (drop (v + w) x)
  unfolding onward next field get_field
  field_some h =
      let g : v ≤ length x = omega arith in
      let d : w ≤ length (drop v x) = rw length-drop (omega arith) in
      rw (skip_some v x g, le-leb w (length (drop v x)) d, drop-drop w v x)
