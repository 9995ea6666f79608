-- The rows of a plan by its table: for each source up to 64 one, where it is a process or has edges.
use mathlib.Core.Path.{◌≡◌, refl, sym, ap, ◌∙◌}
use mathlib.Core.Logic.{⊎_elim}
use mathlib.Core.Bool.{Bool, true, false, not}
use mathlib.Core.List.{List, [], ◌∷◌, ◌++◌, map, append-nil, append_assoc}
use Prim.Native.Nat.{ℕ, zero, suc, ◌+◌, ◌≤◌, ◌<◌}
use native.Mathlib.Omega.{arith}
use lib.Dec.{leb, eqb}
use borrow.Author.Tests.{leb-true, eqb-true, le-ltb, lt-ltb, eq-eqb, ne_eqb, not-false}
use Rattle.rules.specs.Base.{if◌then◌otherwise◌, up_from, up_to, count, rising}
use Rattle.rules.proofs.Tests.{by_bool, and_left, and_right}
use Rattle.rules.proofs.Lists.{All}
use Rattle.types.proofs.Halves.{lt_or_ge}
use Rattle.plan_file.specs.Plan.{PlanEdge, Plan}
use Rattle.plan_rules.specs.Setup.{TopologyRow, joined, edge_rows, place, place_all, rows}
use Rattle.plan_rows.specs.Rows.{has_row, row_if, spread}

pub spread_cong : (keep keep' : ℕ → Bool) (f f' : ℕ → ℕ) (lo k : ℕ) → ((q : ℕ) → lo ≤ q → q < lo + k → keep q ≡ keep' q) → ((q : ℕ) → lo ≤ q → q < lo + k → f q ≡ f' q)
    → spread keep f lo k ≡ spread keep' f' lo k
unfolding spread
spread_cong keep keep' f f' lo zero a b = refl
spread_cong keep keep' f f' lo (suc k) a b =
    let x = a lo (omega arith) (omega arith) in
    let y = b lo (omega arith) (omega arith) in
    let z = spread_cong keep keep' f f' (suc lo) k (λ q h l. a q (omega arith) (omega arith)) (λ q h l. b q (omega arith) (omega arith)) in
    λ i. row_if (x i) lo (y i) ++ z i

spread_none : (keep : ℕ → Bool) (f : ℕ → ℕ) (lo k : ℕ) → ((q : ℕ) → keep q ≡ false) → spread keep f lo k ≡ []
unfolding spread
spread_none keep f lo zero a = refl
spread_none keep f lo (suc k) a = rw (a lo) (spread_none keep f (suc lo) k a)

-- One source more.
pub spread_more : (keep : ℕ → Bool) (f : ℕ → ℕ) (lo k : ℕ) → spread keep f lo (suc k) ≡ spread keep f lo k ++ row_if (keep (lo + k)) (lo + k) (f (lo + k))
unfolding spread
spread_more keep f lo zero = let e : lo + 0 ≡ lo = omega arith in rw (e, append-nil)
spread_more keep f lo (suc k) =
    let e : suc lo + k ≡ lo + suc k = omega arith in
    ap (λ (l : List TopologyRow). row_if (keep lo) lo (f lo) ++ l) (spread_more keep f (suc lo) k ∙ rw e) ∙ sym (append_assoc (row_if (keep lo) lo (f lo)) _ _)

-- A row before all of them.
module _ (keep : ℕ → Bool) (f : ℕ → ℕ) (p : ℕ) where
  place_above : (lo k : ℕ) → p < lo → place p (spread keep f lo k) ≡ record { source = p; count = 0 } ∷ spread keep f lo k
  unfolding spread place if◌then◌otherwise◌
  place_above lo zero h = refl
  place_above lo (suc k) h = by_bool (keep lo) (λ t. rw (t, lt-ltb p lo h)) (λ t. rw t (place_above (suc lo) k (omega arith)))

  joined_above : (lo k : ℕ) → p < lo → joined p (spread keep f lo k) ≡ record { source = p; count = 1 } ∷ spread keep f lo k
  unfolding spread joined if◌then◌otherwise◌
  joined_above lo zero h = refl
  joined_above lo (suc k) h = by_bool (keep lo) (λ t. rw (t, ne_eqb p lo (λ e. omega arith))) (λ t. rw t (joined_above (suc lo) k (omega arith)))

-- A row for p: it has one now, and the others stay.
module _ (keep keep' : ℕ → Bool) (f : ℕ → ℕ) (p : ℕ) (in-it : keep' p ≡ true) (others : (q : ℕ) → (q ≡ p → ⊥) → keep q ≡ keep' q) (empty : keep p ≡ false → f p ≡ 0) where
  place_here : (k : ℕ) → place p (spread keep f p (suc k)) ≡ spread keep' f p (suc k)
  unfolding spread place if◌then◌otherwise◌
  place_here k =
      let same : spread keep f (suc p) k ≡ spread keep' f (suc p) k = spread_cong keep keep' f f (suc p) k (λ q a b. others q (λ x. omega arith)) (λ q a b. refl) in
      by_bool (keep p)
      (λ t. rw (t, in-it, le-ltb p p (omega arith), eq-eqb p p refl, same))
      (λ t. rw (t, in-it) (place_above keep f p (suc p) k (omega arith) ∙ rw (same, empty t)))

  place_past : (lo : ℕ) (rs : List TopologyRow) → lo < p → place p (row_if (keep lo) lo (f lo) ++ rs) ≡ row_if (keep lo) lo (f lo) ++ place p rs
  unfolding place if◌then◌otherwise◌
  place_past lo rs h = by_bool (keep lo) (λ t. rw (t, le-ltb p lo (omega arith), ne_eqb p lo (λ x. omega arith))) (λ t. rw t)

  place_in : (lo k : ℕ) → lo ≤ p → p < lo + k → place p (spread keep f lo k) ≡ spread keep' f lo k
  unfolding spread
  place_in lo zero h l = absurd (omega arith)
  place_in lo (suc k) h l =
      ⊎_elim
      (λ (g : lo < p). place_past lo (spread keep f (suc lo) k) g ∙ rw (place_in (suc lo) k (omega arith) (omega arith), others lo (λ x. omega arith)))
      (λ (g : p ≤ lo). let e : lo ≡ p = omega arith in rw e (place_here k))
      (lt_or_ge lo p)

-- An edge of p, which is below every source that has edges.
module _ (keep keep' : ℕ → Bool) (f f' : ℕ → ℕ) (p : ℕ) (in-it : keep' p ≡ true) (more : f' p ≡ suc (f p)) (empty : keep p ≡ false → f p ≡ 0)
    (below : (q : ℕ) → q < p → keep q ≡ false) (below' : (q : ℕ) → q < p → keep' q ≡ false)
    (above : (q : ℕ) → p < q → keep q ≡ keep' q) (counts : (q : ℕ) → p < q → f q ≡ f' q) where
  joined_here : (k : ℕ) → joined p (spread keep f p (suc k)) ≡ spread keep' f' p (suc k)
  unfolding spread joined if◌then◌otherwise◌
  joined_here k =
      let same : spread keep f (suc p) k ≡ spread keep' f' (suc p) k = spread_cong keep keep' f f' (suc p) k (λ q a b. above q (omega arith)) (λ q a b. counts q (omega arith)) in
      by_bool (keep p)
      (λ t. rw (t, in-it, eq-eqb p p refl, same, more))
      (λ t. rw (t, in-it) (joined_above keep f p (suc p) k (omega arith) ∙ rw (same, more, empty t)))

  joined_in : (lo k : ℕ) → lo ≤ p → p < lo + k → joined p (spread keep f lo k) ≡ spread keep' f' lo k
  unfolding spread
  joined_in lo zero h l = absurd (omega arith)
  joined_in lo (suc k) h l =
      ⊎_elim
      (λ (g : lo < p). rw (below lo g, below' lo g) (joined_in (suc lo) k (omega arith) (omega arith)))
      (λ (g : p ≤ lo). let e : lo ≡ p = omega arith in rw e (joined_here k))
      (lt_or_ge lo p)

-- Edges by their sources
abbrev some_edge : List ℕ → ℕ → Bool
some_edge xs q = not (eqb (count (eqb q) xs) 0)

not_none : (k : ℕ) → not (eqb k 0) ≡ false → k ≡ 0
not_none k h = eqb-true k 0 (not-false (eqb k 0) h)

not_zero : (k : ℕ) → not (eqb (suc k) 0) ≡ true
not_zero k = rw (ne_eqb (suc k) 0 (λ e. omega arith))

no_edge : (q : ℕ) → some_edge [] q ≡ false
unfolding count
no_edge q = refl

-- No edge of a source that is less than the first, where sources never fall.
none_below : (p : ℕ) (xs : List ℕ) → rising leb (p ∷ xs) ≡ true → (q : ℕ) → q < p → count (eqb q) xs ≡ 0
unfolding rising count if◌then◌otherwise◌
none_below p [] h q l = refl
none_below p (x ∷ xs) h q l =
    let a : p ≤ x = leb-true p x (and_left (leb p x) _ h) in
    rw (ne_eqb q x (λ e. omega arith)) (omega (arith, none_below x xs (and_right (leb p x) _ h) q (omega arith)))

rising_tail : (p : ℕ) (xs : List ℕ) → rising leb (p ∷ xs) ≡ true → rising leb xs ≡ true
unfolding rising
rising_tail p [] h = refl
rising_tail p (x ∷ xs) h = and_right (leb p x) _ h

count_own : (p : ℕ) (xs : List ℕ) → count (eqb p) (p ∷ xs) ≡ suc (count (eqb p) xs)
unfolding count if◌then◌otherwise◌
count_own p xs = rw (eq-eqb p p refl) (omega arith)

count_other : (q p : ℕ) (xs : List ℕ) → (q ≡ p → ⊥) → count (eqb q) (p ∷ xs) ≡ count (eqb q) xs
unfolding count if◌then◌otherwise◌
count_other q p xs h = rw (ne_eqb q p h) (omega arith)

abbrev pub sources : List PlanEdge → List ℕ
sources es = map (λ (e : PlanEdge). e.source) es

rows_of_edges : (es : List PlanEdge) → rising leb (sources es) ≡ true → All (λ x. x < 64) (sources es) → edge_rows es ≡ spread (some_edge (sources es)) (λ q. count (eqb q) (sources es)) 0 64
unfolding edge_rows
rows_of_edges [] h b = sym (spread_none _ _ 0 64 no_edge)
rows_of_edges (e ∷ es) h b =
    let p = e.source in
    let xs = sources es in
    ap (joined p) (rows_of_edges es (rising_tail p xs h) b.1) ∙
    joined_in (some_edge xs) (some_edge (p ∷ xs)) (λ q. count (eqb q) xs) (λ q. count (eqb q) (p ∷ xs)) p
    (rw (count_own p xs) (not_zero (count (eqb p) xs)))
    (count_own p xs)
    (not_none (count (eqb p) xs))
    (λ q l. rw (none_below p xs h q l))
    (λ q l. rw (count_other q p xs (λ x. omega arith), none_below p xs h q l))
    (λ q l. rw (count_other q p xs (λ x. omega arith)))
    (λ q l. sym (count_other q p xs (λ x. omega arith)))
    0 64 (omega arith) b.0

-- Every process gets a row.
module _ (f : ℕ → ℕ) where
  with_row : ℕ → ℕ → Bool
  with_row i q = has_row i q (f q)

  next_row : (i q : ℕ) → (q ≡ i → ⊥) → with_row i q ≡ with_row (suc i) q
  unfolding with_row has_row
  next_row i q h =
      ⊎_elim
      (λ (g : q < i). rw (lt-ltb q i g, lt-ltb q (suc i) (omega arith)))
      (λ (g : i ≤ q). rw (le-ltb q i g, le-ltb q (suc i) (omega arith)))
      (lt_or_ge q i)

  own_row : (i : ℕ) → with_row (suc i) i ≡ true
  unfolding with_row has_row
  own_row i = rw (lt-ltb i (suc i) (omega arith))

  no_row : (i : ℕ) → with_row i i ≡ false → f i ≡ 0
  unfolding with_row has_row
  no_row i h = not_none (f i) (rw (le-ltb i i (omega arith)) at h)

  all_placed : (m i : ℕ) → i + m ≤ 64 → place_all (up_from i m) (spread (with_row i) f 0 64) ≡ spread (with_row (i + m)) f 0 64
  unfolding place_all up_from
  all_placed zero i h = let e : i + 0 ≡ i = omega arith in rw e
  all_placed (suc m) i h =
      let e : suc i + m ≡ i + suc m = omega arith in
      ap (place_all (up_from (suc i) m)) (place_in (with_row i) (with_row (suc i)) f i (own_row i) (next_row i) (no_row i) 0 64 (omega arith) (omega arith)) ∙ all_placed m (suc i) (omega arith) ∙ rw e

  first_rows : (q : ℕ) → not (eqb (f q) 0) ≡ with_row 0 q
  unfolding with_row has_row
  first_rows q = rw (le-ltb q 0 (omega arith))

-- The rows of a plan, by how many edges each source has.
pub rows_by_table : (p : Plan) → p.n ≤ 64 → rising leb (sources p.edges) ≡ true → All (λ x. x < 64) (sources p.edges)
    → rows p ≡ spread (λ q. has_row p.n q (count (eqb q) (sources p.edges))) (λ q. count (eqb q) (sources p.edges)) 0 64
unfolding rows up_to with_row
rows_by_table p few h b =
    let f : ℕ → ℕ = λ q. count (eqb q) (sources p.edges) in
    let z : 0 + p.n ≡ p.n = omega arith in
    ap (place_all (up_from 0 p.n)) (rows_of_edges p.edges h b ∙ spread_cong _ (with_row f 0) f f 0 64 (λ q x y. first_rows f q) (λ q x y. refl)) ∙ all_placed f p.n 0 (omega arith) ∙ rw z
