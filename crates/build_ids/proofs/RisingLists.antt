-- Numbers that rise, and those below n that are looked for among them in turn.
use Rattle.std.specs.List.{IsAllAdjacentAnswer}
use mathlib.Core.Path.{◌≡◌, refl, sym, ap, ◌∙◌}
use mathlib.Core.Bool.{Bool, true, false, true≢false}
use mathlib.Core.List.{List, [], ◌∷◌}
use Prim.Native.Nat.{ℕ, zero, suc, ◌+◌, ◌-◌, ◌*◌, ◌%◌, ◌^◌, ◌≤◌, ◌<◌}
use native.Mathlib.Nat.{two-pow-succ, one-mul, mod-eq_of_lt}
use native.Mathlib.Numerals.{add-one}
use native.Mathlib.Omega.{arith}
use lib.Dec.{ltb, eqb}
use lib.ListN.{length, get_or, drop, length-drop}
use lib.Seq.{drop-drop}
use lib.Pow.{pow_mono, pow-lt}
use borrow.Author.Tests.{ltb-true, eqb-true, eqb-false, eq-eqb, ne_eqb, le-leb, lt-leb}
use Rattle.rules.specs.Base.{if◌then◌otherwise◌, none, some, up_from, up_to, any, member, count, rising}
use Rattle.rules.specs.Build.{missing, unexpected, least_without_row}
use Rattle.rules.proofs.Tests.{and_off, by_bool}
use Rattle.rules.proofs.Lists.{All, all_map, none_any}
use Rattle.rules.proofs.Order.{Pairs, rising_pairs}
use Rattle.build_ids.specs.Checks.{starts_with, RisingIds, checked_ids, missing_row_in, missing_row}

-- 3: whether each number is above the one before it, as is_sorted_by answers it

rising_all : (xs : List ℕ) → ((k : ℕ) → suc k < length xs → ltb (get_or xs k 0) (get_or xs (suc k) 0) ≡ true) → rising ltb xs ≡ true
unfolding rising
rising_all [] h = refl
rising_all (x ∷ []) h = refl
rising_all (x ∷ y ∷ ys) h = rw (h 0 (omega arith)) (rising_all (y ∷ ys) (λ k l. h (suc k) (omega arith)))

pub rising_stops : (xs : List ℕ) (k : ℕ) → suc k < length xs → ltb (get_or xs k 0) (get_or xs (suc k) 0) ≡ false → rising ltb xs ≡ false
unfolding rising
rising_stops [] k l h = absurd (omega arith)
rising_stops (x ∷ []) k l h = absurd (omega arith)
rising_stops (x ∷ y ∷ ys) zero l h = and_off _ _ h
rising_stops (x ∷ y ∷ ys) (suc k) l h = by_bool (ltb x y) (λ e. rw e (rising_stops (y ∷ ys) k (omega arith) h)) (λ e. rw e)

pub rising_answer : (xs : List ℕ) (r : Bool) → IsAllAdjacentAnswer (λ x y b. b ≡ ltb x y) xs r → r ≡ rising ltb xs
rising_answer xs true h = sym (rising_all xs (λ k l. rw add-one at (sym (h k 0 (rw add-one l)))))
rising_answer xs false (k, l, h) = sym (rising_stops xs k (rw add-one at l) (rw add-one at (sym (h 0))))

-- Numbers from p on that rise

pub record Rises (p : ℕ) (xs : List ℕ) : Type 0 where
  pub from : All (λ x. p ≤ x) xs
  pub pairs : Pairs (λ x y. x < y) xs

pub rises : (xs : List ℕ) → rising ltb xs ≡ true → Rises 0 xs
rises xs h = record { from = all_from xs; pairs = rising_pairs ltb (λ x y. x < y) (λ x y e. ltb-true x y e) (λ x y z a b. omega arith) xs h }
  where
    all_from : (ys : List ℕ) → All (λ x. 0 ≤ x) ys
    all_from [] = tt
    all_from (y ∷ ys) = (omega arith, all_from ys)

rises_off : (p : ℕ) (xs : List ℕ) → Rises p xs → starts_with p xs ≡ false → Rises (suc p) xs
rises_off p [] r h = record { from = tt; pairs = tt }
rises_off p (x ∷ xs) r h =
    let d : (x ≡ p → ⊥) = eqb-false x p h in
    let a : p ≤ x = r.from.0 in
    record { from = (omega arith, all_map (λ y. x < y) (λ y. suc p ≤ y) (λ y g. omega arith) xs r.pairs.0); pairs = r.pairs }

rises_on : (p : ℕ) (xs : List ℕ) → Rises p xs → starts_with p xs ≡ true → Rises (suc p) (drop 1 xs)
rises_on p [] r h = record { from = tt; pairs = tt }
rises_on p (x ∷ xs) r h =
    let a : p ≤ x = r.from.0 in
    record { from = all_map (λ y. x < y) (λ y. suc p ≤ y) (λ y g. omega arith) xs r.pairs.0; pairs = r.pairs.1 }

-- Which numbers are among them

member_none : (p : ℕ) (xs : List ℕ) → Rises (suc p) xs → member p xs ≡ false
unfolding member
member_none p xs r = none_any (eqb p) xs (all_map (λ x. suc p ≤ x) (λ x. eqb p x ≡ false) (λ x h. ne_eqb p x (λ e. omega arith)) xs r.from)

member_first : (p : ℕ) (xs : List ℕ) → starts_with p xs ≡ true → member p xs ≡ true
unfolding member any
member_first p [] h = h
member_first p (x ∷ xs) h = rw (eq-eqb p x (sym (eqb-true x p h)))

member_past : (p q : ℕ) (xs : List ℕ) → starts_with p xs ≡ true → p < q → member q xs ≡ member q (drop 1 xs)
unfolding member any
member_past p q [] h l = refl
member_past p q (x ∷ xs) h l = let e = eqb-true x p h in rw (ne_eqb q x (λ f. omega arith))

up_from_above : (i k : ℕ) → All (λ q. i ≤ q) (up_from i k)
unfolding up_from
up_from_above i zero = tt
up_from_above i (suc k) = (omega arith, all_map (λ q. suc i ≤ q) (λ q. i ≤ q) (λ q h. omega arith) (up_from (suc i) k) (up_from_above (suc i) k))

-- 4: the mask

missing_past : (p : ℕ) (xs ps : List ℕ) → starts_with p xs ≡ true → All (λ q. suc p ≤ q) ps → missing xs ps ≡ missing (drop 1 xs) ps
unfolding missing
missing_past p xs [] h a = refl
missing_past p xs (q ∷ ps) h a = rw (member_past p q xs h a.0, missing_past p xs ps h a.1)

missing_on : (p k : ℕ) (xs : List ℕ) → starts_with p xs ≡ true → missing xs (up_from p (suc k)) ≡ missing (drop 1 xs) (up_from (suc p) k)
unfolding missing up_from if◌then◌otherwise◌
missing_on p k xs h = rw (member_first p xs h) (omega (arith, missing_past p xs (up_from (suc p) k) h (up_from_above (suc p) k)))

missing_off : (p k : ℕ) (xs : List ℕ) → Rises (suc p) xs → missing xs (up_from p (suc k)) ≡ 2 ^ p + missing xs (up_from (suc p) k)
unfolding missing up_from if◌then◌otherwise◌
missing_off p k xs r = rw (member_none p xs r)

-- 4: the unexpected

unexpected_on : (n p : ℕ) (xs : List ℕ) → starts_with p xs ≡ true → p < n → unexpected n xs ≡ unexpected n (drop 1 xs)
unfolding unexpected count if◌then◌otherwise◌
unexpected_on n p [] h l = refl
unexpected_on n p (x ∷ xs) h l = let e = eqb-true x p h in rw (lt-leb n x (omega arith)) (omega arith)

unexpected_all : (n : ℕ) (xs : List ℕ) → All (λ x. n ≤ x) xs → unexpected n xs ≡ length xs
unfolding unexpected count if◌then◌otherwise◌
unexpected_all n [] a = refl
unexpected_all n (x ∷ xs) a = rw (le-leb n x a.0) (omega (arith, unexpected_all n xs a.1))

-- 4: after p numbers were looked for, `at` ids are passed and m is the mask so far.
pub record Met (n : ℕ) (ids : List ℕ) (m at p : ℕ) : Type 0 where
  pub within : p ≤ n
  pub inside : at ≤ length ids
  pub small : m < 2 ^ p
  pub rise : Rises p (drop at ids)
  pub mask : missing ids (up_to n) ≡ m + missing (drop at ids) (up_from p (n - p))
  pub beyond : unexpected n ids ≡ unexpected n (drop at ids)

next : (n p : ℕ) → p < n → n - p ≡ suc (n - (p + 1))
next n p h = omega arith

twice : (p : ℕ) → 2 ^ (p + 1) ≡ 2 ^ p + 2 ^ p
twice p = rw add-one (two-pow-succ p)

-- The bit of p, as a shift makes it, and room for it above the bits of the numbers below p.
module _ (n p : ℕ) (few : n ≤ 64) (l : p < n) where
  pub bit_is : 1 * 2 ^ p % 2 ^ 64 ≡ 2 ^ p
  bit_is = let h : 2 ^ p < 2 ^ 64 = pow-lt {j = 64} (omega arith) in rw one-mul (mod-eq_of_lt h)

  pub mask_fits : (m : ℕ) → m < 2 ^ p → m + 1 * 2 ^ p % 2 ^ 64 < 2 ^ 64
  mask_fits m h = let k : 2 ^ (p + 1) ≤ 2 ^ 64 = pow_mono {i = p + 1} {j = 64} (omega arith) in omega (arith, twice p, bit_is)

module _ (n : ℕ) (ids : List ℕ) where
  pub met_none : RisingIds n ids → Met n ids 0 0 0
  unfolding up_to
  met_none o = record { within = omega arith; inside = omega arith; small = omega arith; rise = rises ids o.rise; mask = let e : n - 0 ≡ n = omega arith in rw e (omega arith); beyond = refl }

  pub met_on : (m at p : ℕ) → p < n → starts_with p (drop at ids) ≡ true → Met n ids m at p → Met n ids m (at + 1) (p + 1)
  met_on m at p l h i =
      let xs = drop at ids in
      let d : drop 1 xs ≡ drop (at + 1) ids = drop-drop 1 at ids in
      let r : Rises (p + 1) (drop (at + 1) ids) = rw (add-one, ← d) (rises_on p xs i.rise h) in
      let e : missing xs (up_from p (n - p)) ≡ missing (drop (at + 1) ids) (up_from (p + 1) (n - (p + 1))) = rw (next n p l, ← d) (missing_on p (n - (p + 1)) xs h ∙ rw (add-one p)) in
      record {
        within = omega arith;
        inside = omega (arith, some_left xs h, length-drop at ids);
        small = omega (arith, i.small, twice p);
        rise = r;
        mask = omega (arith, i.mask, e);
        beyond = i.beyond ∙ unexpected_on n p xs h l ∙ ap (unexpected n) d;
      }
    where
      some_left : (ys : List ℕ) → starts_with p ys ≡ true → 1 ≤ length ys
      some_left [] g = absurd (true≢false (sym g))
      some_left (y ∷ ys) g = omega arith

  pub met_off : (m at p : ℕ) → p < n → starts_with p (drop at ids) ≡ false → Met n ids m at p → Met n ids (m + 2 ^ p) at (p + 1)
  met_off m at p l h i =
      let xs = drop at ids in
      let r : Rises (suc p) xs = rises_off p xs i.rise h in
      let e : missing xs (up_from p (n - p)) ≡ 2 ^ p + missing xs (up_from (p + 1) (n - (p + 1))) = rw (next n p l, add-one p) (missing_off p (n - suc p) xs r) in
      record {
        within = omega arith;
        inside = i.inside;
        small = omega (arith, i.small, twice p);
        rise = rw add-one r;
        mask = omega (arith, i.mask, e);
        beyond = i.beyond;
      }

  pub met_all : (m at p : ℕ) → n ≤ p → Met n ids m at p → record { missing = m; unexpected = length ids - at } ≡ checked_ids n ids
  unfolding checked_ids missing up_from
  met_all m at p l i =
      let e : p ≡ n = omega (arith, i.within) in
      let z : n - n ≡ 0 = omega arith in
      let a : m ≡ missing ids (up_to n) = omega (arith, rw (e, z) at i.mask) in
      let b : length ids - at ≡ unexpected n ids = omega (arith, i.beyond, unexpected_all n (drop at ids) (rw e at i.rise.from), length-drop at ids) in
      rw (← a, ← b)

-- 6: the least that is missing

no_row_more : (p : ℕ) (xs ps : List ℕ) → missing_row_in xs (p ∷ ps) ≡ (if member p xs then missing_row_in xs ps otherwise some p)
unfolding missing_row_in any least_without_row if◌then◌otherwise◌
no_row_more p xs ps = by_bool (member p xs) (λ e. rw e) (λ e. rw e)

no_row_none : (xs : List ℕ) → missing_row_in xs [] ≡ none
unfolding missing_row_in any if◌then◌otherwise◌
no_row_none xs = refl

no_row_past : (p : ℕ) (xs ps : List ℕ) → starts_with p xs ≡ true → All (λ q. suc p ≤ q) ps → missing_row_in xs ps ≡ missing_row_in (drop 1 xs) ps
no_row_past p xs [] h a = no_row_none xs ∙ sym (no_row_none (drop 1 xs))
no_row_past p xs (q ∷ ps) h a = no_row_more q xs ps ∙ rw (member_past p q xs h a.0, no_row_past p xs ps h a.1) (sym (no_row_more q (drop 1 xs) ps))

no_row_on : (p k : ℕ) (xs : List ℕ) → starts_with p xs ≡ true → missing_row_in xs (up_from p (suc k)) ≡ missing_row_in (drop 1 xs) (up_from (suc p) k)
unfolding up_from if◌then◌otherwise◌
no_row_on p k xs h = no_row_more p xs (up_from (suc p) k) ∙ rw (member_first p xs h) (no_row_past p xs (up_from (suc p) k) h (up_from_above (suc p) k))

no_row_off : (p k : ℕ) (xs : List ℕ) → Rises (suc p) xs → missing_row_in xs (up_from p (suc k)) ≡ some p
unfolding up_from if◌then◌otherwise◌
no_row_off p k xs r = no_row_more p xs (up_from (suc p) k) ∙ rw (member_none p xs r)

-- 6: the processes below p have their rows, each at its place.
pub record Rowed (n : ℕ) (sources : List ℕ) (p : ℕ) : Type 0 where
  pub rise : Rises p (drop p sources)
  pub left : missing_row n sources ≡ missing_row_in (drop p sources) (up_from p (n - p))

module _ (n : ℕ) (sources : List ℕ) where
  pub rowed_none : RisingIds n sources → Rowed n sources 0
  unfolding missing_row up_to
  rowed_none o = record { rise = rises sources o.rise; left = let e : n - 0 ≡ n = omega arith in rw e }

  pub rowed_on : (p : ℕ) → p < n → starts_with p (drop p sources) ≡ true → Rowed n sources p → Rowed n sources (p + 1)
  rowed_on p l h i =
      let xs = drop p sources in
      let d : drop 1 xs ≡ drop (p + 1) sources = drop-drop 1 p sources in
      record {
        rise = rw (← d, add-one) (rises_on p xs i.rise h);
        left = i.left ∙ rw (next n p l, ← d) (no_row_on p (n - (p + 1)) xs h ∙ rw (add-one p));
      }

  pub rowed_off : (p : ℕ) → p < n → starts_with p (drop p sources) ≡ false → Rowed n sources p → some p ≡ missing_row n sources
  rowed_off p l h i = let xs = drop p sources in sym (i.left ∙ rw (next n p l) (no_row_off p (n - (p + 1)) xs (rises_off p xs i.rise h)))

  pub rowed_all : (p : ℕ) → n ≤ p → Rowed n sources p → none ≡ missing_row n sources
  unfolding missing_row_in up_from any if◌then◌otherwise◌
  rowed_all p l i = let z : n - p ≡ 0 = omega arith in sym (i.left ∙ rw z)
