-- The edges of a file, 140 bits each.
use mathlib.Core.Path.{◌≡◌, refl, sym, ap, ◌∙◌}
use mathlib.Core.Bool.{Bool}
use mathlib.Core.List.{List, [], ◌∷◌, ◌++◌, map}
use Prim.Native.Nat.{ℕ, zero, suc, ◌+◌, ◌*◌, ◌/◌, ◌%◌, ◌≤◌, ◌<◌}
use native.Mathlib.Omega.{arith}
use native.Mathlib.Numerals.{add-one}
use lib.ListN.{length, take, drop, get_or, set, length-drop}
use lib.Seq.{drop-drop, take-add, length-take-le}
use borrow.Author.Tests.{le-leb}
use Rattle.bits.specs.Bits.{value_of}
use Rattle.bits.specs.Bytes.{stream}
use Rattle.bits.proofs.Fields.{value_take, value_append}
use Rattle.bits.proofs.Streams.{length_stream}
use Rattle.plan_file.specs.Plan.{PlanEdge}
use Rattle.plan_file.specs.Format.{Got.got, next, get_field, field, pair, seen, gets}
use Rattle.plan_file.specs.Grammar.{edge}
use Rattle.plan_rows.specs.Rows.{ReadsEdges}
use Rattle.plan_rows.proofs.Filling.{one_behind}

-- The edge that bits begin with, and the first n.
unfoldable pub edge_of : List Bool → PlanEdge
edge_of b = record { source = value_of (take 6 b); destination = value_of (take 6 (drop 6 b)); lookahead = value_of (take 128 (drop 12 b)) }

unfoldable pub edges_from : ℕ → List Bool → List PlanEdge
edges_from zero b = []
edges_from (suc n) b = edge_of b ∷ edges_from n (drop 140 b)

edge_there : (b : List Bool) → 140 ≤ length b → edge.get b ≡ got (edge_of b) (drop 140 b)
unfolding edge seen pair field get_field next edge_of
edge_there b h =
    let l : 6 ≤ length (drop 6 b) = simp length-drop (omega arith) in
    let m : 128 ≤ length (drop 12 b) = simp length-drop (omega arith) in
    rw (le-leb 6 (length b) (omega arith), le-leb 6 (length (drop 6 b)) l, drop-drop 6 6 b, le-leb 128 (length (drop 12 b)) m, drop-drop 128 12 b)

edges_there : (n : ℕ) (b : List Bool) → n * 140 ≤ length b → gets edge n b ≡ got (edges_from n b) (drop (n * 140) b)
unfolding gets edges_from next
edges_there zero b h = refl
edges_there (suc n) b h =
    let l : n * 140 ≤ length (drop 140 b) = simp length-drop (omega arith) in
    let e : 140 + n * 140 ≡ suc n * 140 = omega arith in
    rw (edge_there b (omega arith), edges_there n (drop 140 b) l, drop-drop (n * 140) 140 b, e)

pub edges_more : (n : ℕ) (b : List Bool) → edges_from (suc n) b ≡ edges_from n b ++ (edge_of (drop (140 * n) b) ∷ [])
unfolding edges_from
edges_more zero b = refl
edges_more (suc n) b =
    let e : 140 + 140 * n ≡ 140 * suc n = omega arith in
    ap (λ (l : List PlanEdge). edge_of b ∷ l) (edges_more n (drop 140 b) ∙ rw (drop-drop (140 * n) 140 b, e))

-- Twelve bits are both fields.
both_fields : (b : List Bool) → 12 ≤ length b → value_of (take 12 b) ≡ (edge_of b).source * 64 + (edge_of b).destination
unfolding edge_of
both_fields b h =
    let l : 6 ≤ length (drop 6 b) = simp length-drop (omega arith) in
    rw (take-add 6 6 b, value_append (take 6 b) (take 6 (drop 6 b)), length-take-le 6 (drop 6 b) l)

narrow : (b : List Bool) → (edge_of b).destination < 64
unfolding edge_of
narrow b = value_take 6 (drop 6 b)

narrow_source : (b : List Bool) → (edge_of b).source < 64
unfolding edge_of
narrow_source b = value_take 6 b

abbrev pub edges_at : List ℕ → ℕ → List PlanEdge
edges_at s n = edges_from n (drop 337 (stream s))

-- The first i are read.
pub record Reading (s : List ℕ) (i : ℕ) (sources destinations : List ℕ) : Type 0 where
  pub first_sources : take i sources ≡ map (λ (e : PlanEdge). e.source) (edges_at s i)
  pub first_destinations : take i destinations ≡ map (λ (e : PlanEdge). e.destination) (edges_at s i)

pub reading_none : (s sources destinations : List ℕ) → Reading s 0 sources destinations
unfolding edges_from
reading_none s sources destinations = record { first_sources = refl; first_destinations = refl }

pub map_push : (f : PlanEdge → ℕ) (es : List PlanEdge) (e : PlanEdge) → map f (es ++ (e ∷ [])) ≡ map f es ++ (f e ∷ [])
map_push f [] e = refl
map_push f (x ∷ es) e = ap (λ (l : List ℕ). f x ∷ l) (map_push f es e)

module _ (s : List ℕ) (i x : ℕ) (sources destinations : List ℕ) (room : 337 + 140 * i + 12 ≤ length s * 8) (e : x ≡ value_of (take 12 (drop (337 + 140 * i) (stream s)))) where
  here : List Bool
  here = drop (140 * i) (drop 337 (stream s))

  value : x ≡ (edge_of here).source * 64 + (edge_of here).destination
  unfolding here
  value =
      let l : 12 ≤ length (drop (140 * i) (drop 337 (stream s))) = simp (length-drop, length_stream) (omega arith) in
      e ∙ rw (sym (drop-drop (140 * i) 337 (stream s))) (both_fields (drop (140 * i) (drop 337 (stream s))) l)

  edges_next : edges_at s (i + 1) ≡ edges_at s i ++ (edge_of here ∷ [])
  unfolding here
  edges_next = rw (add-one, edges_more i (drop 337 (stream s)))

  pub small : x < 4096
  small = omega (arith, value, narrow here, narrow_source here)

  pub reading_more : i < length sources → i < length destinations → Reading s i sources destinations → Reading s (i + 1) (set sources i (x / 64)) (set destinations i (x % 64))
  reading_more h l p =
      let a : x / 64 ≡ (edge_of here).source = omega (arith, value, narrow here) in
      let b : x % 64 ≡ (edge_of here).destination = omega (arith, value, narrow here) in
      record {
        first_sources = one_behind sources _ i (x / 64) h p.first_sources ∙ rw (edges_next, map_push, a);
        first_destinations = one_behind destinations _ i (x % 64) l p.first_destinations ∙ rw (edges_next, map_push, b);
      }

below_all : (n : ℕ) (b : List Bool) (i : ℕ) → get_or (map (λ (e : PlanEdge). e.source) (edges_from n b)) i 0 < 64
unfolding edges_from edge_of
below_all zero b i = omega arith
below_all (suc n) b zero = value_take 6 b
below_all (suc n) b (suc i) = below_all n (drop 140 b) i

-- What was read of them, in whatever way.
pub edges_are : (s : List ℕ) (k : ℕ) → 337 + 140 * k ≤ length s * 8 → (es : List PlanEdge) (behind : List Bool) → gets edge k (drop 337 (stream s)) ≡ got es behind → es ≡ edges_at s k
edges_are s k room es behind e =
    let l : k * 140 ≤ length (drop 337 (stream s)) = simp (length-drop, length_stream) (omega arith) in
    same es behind (edges_at s k) _ (sym e ∙ edges_there k (drop 337 (stream s)) l)
  where
    same : (es : List PlanEdge) (t : List Bool) (fs : List PlanEdge) (u : List Bool) → got es t ≡ got fs u → es ≡ fs
    same es t fs u h = cc

pub reading_end : (s : List ℕ) (k : ℕ) (sources destinations : List ℕ) → 337 + 140 * k ≤ length s * 8 → Reading s k sources destinations → ReadsEdges s k sources destinations
reading_end s k sources destinations room p = record {
  read = λ es behind e.
      let g : es ≡ edges_at s k = edges_are s k room es behind e in
      (p.first_sources ∙ ap (map (λ (x : PlanEdge). x.source)) (sym g), p.first_destinations ∙ ap (map (λ (x : PlanEdge). x.destination)) (sym g));
  below = λ i. rw p.first_sources (below_all k (drop 337 (stream s)) i);
}
