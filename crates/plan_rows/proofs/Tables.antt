-- Edges counted by source, and rows written from the counts.
use mathlib.Core.Path.{◌≡◌, refl, sym, ap, ◌∙◌}
use mathlib.Core.Bool.{Bool, true, false}
use mathlib.Core.List.{List, [], ◌∷◌, ◌++◌, map, append_assoc}
use Prim.Native.Nat.{ℕ, zero, suc, ◌+◌, ◌≤◌, ◌<◌}
use native.Mathlib.Omega.{arith}
use native.Mathlib.Numerals.{add-one}
use lib.Dec.{eqb}
use lib.ListN.{length, take, get_or, set, length-set, length-append, get_or-replicate, replicate}
use lib.Seq.{take-suc, length-take-le, get_or-set_same, get_or-set_other}
use borrow.Author.Tests.{eqb-true, eqb-false, eq-eqb, ne_eqb}
use Rattle.rules.specs.Base.{if◌then◌otherwise◌, count}
use Rattle.rules.proofs.Tests.{by_bool}
use Rattle.rules.proofs.Lists.{All}
use Rattle.plan_file.specs.Plan.{Plan}
use Rattle.plan_rules.specs.Setup.{TopologyRow, rows, setup_of}
use Rattle.plan_rows.specs.Rows.{Rowable, MakesRows, Tallies, has_row, row_if, spread, table_rows, PutsRows}
use Rattle.plan_rows.proofs.Spread.{spread_cong, spread_more, sources, rows_by_table}

-- The table.
pub tallies_none : Tallies [] (replicate 64 0)
unfolding count
tallies_none = record { size = refl; counts = λ q h. get_or-replicate 64 q 0 0 h }

count_push : (q x : ℕ) (xs : List ℕ) → count (eqb q) (xs ++ (x ∷ [])) ≡ count (eqb q) xs + (if eqb q x then 1 otherwise 0)
unfolding count
count_push q x [] = omega arith
count_push q x (y ∷ xs) = omega (arith, count_push q x xs)

count_few : (q : ℕ) (xs : List ℕ) → count (eqb q) xs ≤ length xs
unfolding count if◌then◌otherwise◌
count_few q [] = omega arith
count_few q (x ∷ xs) = by_bool (eqb q x) (λ t. rw t (omega (arith, count_few q xs))) (λ t. rw t (omega (arith, count_few q xs)))

-- One edge more, of the source that stands at i.
module _ (from table : List ℕ) (i : ℕ) (h : i < length from) (t : Tallies (take i from) table) where
  pub tally_few : (q : ℕ) → q < 64 → get_or table q 0 ≤ length from
  tally_few q l = omega (arith, t.counts q l, count_few q (take i from), length-take-le i from (omega arith))

  taken : take (i + 1) from ≡ take i from ++ (get_or from i 0 ∷ [])
  taken = rw (add-one, take-suc from i 0)

  pub tally_more : (q k : ℕ) → q < 64 → q ≡ get_or from i 0 → k ≡ get_or table q 0 → Tallies (take (i + 1) from) (set table q (k + 1))
  tally_more q k l e c = record { size = length-set table q (k + 1) ∙ t.size; counts = by-source }
    where
      more : (x : ℕ) → count (eqb x) (take (i + 1) from) ≡ count (eqb x) (take i from) + (if eqb x (get_or from i 0) then 1 otherwise 0)
      more x = ap (count (eqb x)) taken ∙ count_push x (get_or from i 0) (take i from)

      by-source : (x : ℕ) → x < 64 → get_or (set table q (k + 1)) x 0 ≡ count (eqb x) (take (i + 1) from)
      by-source x m =
          by_bool (eqb x q)
          (λ b. let f : x ≡ q = eqb-true x q b in
          let g : q < length table = omega (arith, t.size) in
          rw f (get_or-set_same table q (k + 1) 0 g ∙ own f))
          (λ b. get_or-set_other table q x (k + 1) 0 (eqb-false x q b) ∙ t.counts x m ∙ sym (more x ∙ other (λ f. eqb-false x q b (f ∙ sym e))))
        where
          own : x ≡ q → k + 1 ≡ count (eqb q) (take (i + 1) from)
          own f = unfold if◌then◌otherwise◌ in (rw (more q, eq-eqb q (get_or from i 0) e) (omega (arith, t.counts q l, c)))

          other : (x ≡ get_or from i 0 → ⊥) → count (eqb x) (take i from) + (if eqb x (get_or from i 0) then 1 otherwise 0) ≡ count (eqb x) (take i from)
          other f = unfold if◌then◌otherwise◌ in (rw (ne_eqb x (get_or from i 0) f) (omega arith))

-- Rows, and more behind them.
map_both : {A : Type 0} (f : A → ℕ) (xs ys : List A) → map f (xs ++ ys) ≡ map f xs ++ map f ys
map_both f [] ys = refl
map_both f (x ∷ xs) ys = ap (λ (l : List ℕ). f x ∷ l) (map_both f xs ys)

rows_both : (a b a' b' a'' b'' : List ℕ) (r m k : ℕ) (xs ys : List TopologyRow) → PutsRows a b r xs a' b' m → PutsRows a' b' m ys a'' b'' k → PutsRows a b r (xs ++ ys) a'' b'' k
rows_both a b a' b' a'' b'' r m k xs ys p q = record {
  same_sources = q.same_sources ∙ p.same_sources;
  same_counts = q.same_counts ∙ p.same_counts;
  many = omega (arith, p.many, q.many, length-append xs ys);
  new_sources = q.new_sources ∙ ap (λ (l : List ℕ). l ++ map (λ (x : TopologyRow). x.source) ys) p.new_sources ∙ append_assoc (take r a) _ _ ∙ ap (λ (l : List ℕ). take r a ++ l) (sym (map_both (λ (x : TopologyRow). x.source) xs ys));
  new_counts = q.new_counts ∙ ap (λ (l : List ℕ). l ++ map (λ (x : TopologyRow). x.count) ys) p.new_counts ∙ append_assoc (take r b) _ _ ∙ ap (λ (l : List ℕ). take r b ++ l) (sym (map_both (λ (x : TopologyRow). x.count) xs ys));
}

pub rows_none : (n : ℕ) (table a b : List ℕ) → PutsRows a b 0 (table_rows n table 0) a b 0
unfolding spread
rows_none n table a b = record { same_sources = refl; same_counts = refl; many = refl; new_sources = refl; new_counts = refl }

length_row : (b : Bool) (q k : ℕ) → length (row_if b q k) ≤ 1
length_row true q k = omega arith
length_row false q k = omega arith

module _ (n : ℕ) (table a b a' b' : List ℕ) (q r : ℕ) (p : PutsRows a b 0 (table_rows n table q) a' b' r) where
  pub rows_more : (k : ℕ) (a'' b'' : List ℕ) (m : ℕ) → k ≡ get_or table q 0 → PutsRows a' b' r (row_if (has_row n q k) q k) a'' b'' m → PutsRows a b 0 (table_rows n table (q + 1)) a'' b'' m
  rows_more k a'' b'' m e o =
      let z : 0 + q ≡ q = omega arith in
      let s : table_rows n table (q + 1) ≡ table_rows n table q ++ row_if (has_row n q (get_or table q 0)) q (get_or table q 0) = rw (add-one, spread_more, z) in
      rw s (rows_both a b a' b' a'' b'' 0 r m (table_rows n table q) _ p (rw e at o))

  pub rows_few : (k : ℕ) (a'' b'' : List ℕ) (m : ℕ) → PutsRows a' b' r (row_if (has_row n q k) q k) a'' b'' m → m ≤ r + 1
  rows_few k a'' b'' m o = omega (arith, o.many, length_row (has_row n q k) q k)

length_spread : (keep : ℕ → Bool) (f : ℕ → ℕ) (lo k : ℕ) → length (spread keep f lo k) ≤ k
unfolding spread
length_spread keep f lo zero = omega arith
length_spread keep f lo (suc k) = omega (arith, length-append (row_if (keep lo) lo (f lo)) (spread keep f (suc lo) k), length_row (keep lo) lo (f lo), length_spread keep f (suc lo) k)

-- All rows: those of a plan with these sources.
all_below : (xs : List ℕ) → ((i : ℕ) → get_or xs i 0 < 64) → All (λ x. x < 64) xs
all_below [] h = tt
all_below (x ∷ xs) h = (h 0, all_below xs (λ i. h (suc i)))

pub rows_made : (n : ℕ) (from table a b a' b' : List ℕ) (r : ℕ) → Rowable n from a b → Tallies from table → PutsRows a b 0 (table_rows n table 64) a' b' r → MakesRows n from a' b' r
unfolding setup_of
rows_made n from table a b a' b' r w t p = record {
  few = omega (arith, p.many, length_spread (λ q. has_row n q (get_or table q 0)) (λ q. get_or table q 0) 0 64);
  of_plan = λ x e s.
      let g : rows x ≡ table_rows n table 64 = by_table x e s in
      (p.new_sources ∙ ap (map (λ (y : TopologyRow). y.source)) (sym g), p.new_counts ∙ ap (map (λ (y : TopologyRow). y.count)) (sym g));
}
  where
    by_table : (x : Plan) → x.n ≡ n → sources x.edges ≡ from → rows x ≡ table_rows n table 64
    by_table x e s =
        let c : (q : ℕ) → q < 64 → count (eqb q) (sources x.edges) ≡ get_or table q 0 = λ q h. ap (count (eqb q)) s ∙ sym (t.counts q h) in
        rows_by_table x (rw e w.few) (rw s w.standing) (rw s (all_below from w.below)) ∙
        spread_cong _ _ _ _ 0 64 (λ q h l. ap (has_row x.n q) (c q (omega arith)) ∙ ap (λ k. has_row k q (get_or table q 0)) e) (λ q h l. c q (omega arith))
