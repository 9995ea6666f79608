-- What build makes of a plan, and what it never refuses.
use mathlib.Core.Path.{◌≡◌, refl, sym, ap, ◌∙◌, subst}
use mathlib.Core.Bool.{Bool, true, false, not, ◌&&◌, ◌||◌, true≢false}
use mathlib.Core.List.{List, [], ◌∷◌, ◌++◌, map}
use Prim.Native.Nat.{ℕ, zero, suc, ◌+◌, ◌≤◌, ◌<◌}
use native.Mathlib.Omega.{arith}
use lib.Dec.{leb, ltb, eqb}
use lib.ListN.{length, take, drop}
use borrow.Author.Tests.{leb-true, leb-false, ltb-true, ltb-false, eqb-true, eqb-false, le-leb, lt-leb, le-ltb, lt-ltb, eq-eqb}
use Rattle.rules.specs.Base.{if◌then◌otherwise◌, up_from, up_to, any, any_of, member, sum, count, rising}
use Rattle.rules.specs.State.{Edge}
use Rattle.rules.specs.Build.{Target, targets, edge_to, edges_of, built, missing, unexpected, malformed_rows}
use Rattle.rules.proofs.Tests.{by_test, by_bool}
use Rattle.plan_file.specs.Plan.{PlanEdge, Plan}
use Rattle.plan_rules.specs.Setup.{TopologyRow, joined, edge_rows, place, place_all, rows, setup_of}
use Rattle.plan_rules.specs.Laws.{standing, Sets}

abbrev sources_of : List TopologyRow → List ℕ
sources_of rs = map (λ (r : TopologyRow). r.source) rs

abbrev counts_of : List TopologyRow → List ℕ
counts_of rs = map (λ (r : TopologyRow). r.count) rs

abbrev edge : PlanEdge → Edge
edge e = record { source = e.source; destination = e.destination; lookahead = e.lookahead; bound = e.lookahead }

abbrev targets_of : List PlanEdge → List Target
targets_of es = targets (map (λ (e : PlanEdge). e.destination) es) (map (λ (e : PlanEdge). e.lookahead) es)

edges_by : List TopologyRow → List Target → List Edge
edges_by rs ts = edges_of (sources_of rs) (counts_of rs) ts

edges_joined : (q : ℕ) (t : Target) (rs : List TopologyRow) (ts : List Target) → edges_by (joined q rs) (t ∷ ts) ≡ edge_to q t ∷ edges_by rs ts
unfolding edges_by edges_of joined
edges_joined q t [] ts = refl
edges_joined q t (r ∷ rs) ts =
    by_test (λ (l : List TopologyRow). edges_by l (t ∷ ts) ≡ edge_to q t ∷ edges_by (r ∷ rs) ts)
    (λ e. subst (λ (s : ℕ). edges_by (record { source = q; count = suc r.count } ∷ rs) (t ∷ ts) ≡ edge_to q t ∷ edges_by (record { source = s; count = r.count } ∷ rs) ts) (eqb-true q r.source e) refl)
    (λ e. refl)

edges_edge_rows : (es : List PlanEdge) → edges_by (edge_rows es) (targets_of es) ≡ map edge es
unfolding edges_by edges_of edge_rows targets
edges_edge_rows [] = refl
edges_edge_rows (e ∷ es) = edges_joined e.source (record { destination = e.destination; lookahead = e.lookahead }) (edge_rows es) (targets_of es) ∙ ap (λ (l : List Edge). edge e ∷ l) (edges_edge_rows es)

edges_place : (q : ℕ) (rs : List TopologyRow) (ts : List Target) → edges_by (place q rs) ts ≡ edges_by rs ts
unfolding edges_by edges_of place
edges_place q [] ts = refl
edges_place q (r ∷ rs) ts =
    by_test (λ (l : List TopologyRow). edges_by l ts ≡ edges_by (r ∷ rs) ts) (λ e. refl) (λ e.
    by_test (λ (l : List TopologyRow). edges_by l ts ≡ edges_by (r ∷ rs) ts) (λ u. refl) (λ u.
    ap (λ (l : List Edge). map (edge_to r.source) (take r.count ts) ++ l) (edges_place q rs (drop r.count ts))))

edges_all : (qs : List ℕ) (rs : List TopologyRow) (ts : List Target) → edges_by (place_all qs rs) ts ≡ edges_by rs ts
unfolding place_all
edges_all [] rs ts = refl
edges_all (q ∷ qs) rs ts = edges_all qs (place q rs) ts ∙ edges_place q rs ts

edges_made : (p : Plan) → (built (setup_of p)).edges ≡ map edge p.edges
unfolding built setup_of rows edges_by
edges_made p = edges_all (up_to p.n) (edge_rows p.edges) (targets_of p.edges) ∙ edges_edge_rows p.edges

-- Sums of the counts
sum_joined : (q : ℕ) (rs : List TopologyRow) → sum (counts_of (joined q rs)) ≡ suc (sum (counts_of rs))
unfolding sum joined
sum_joined q [] = refl
sum_joined q (r ∷ rs) = by_test (λ (l : List TopologyRow). sum (counts_of l) ≡ suc (r.count + sum (counts_of rs))) (λ t. omega arith) (λ t. omega arith)

sum_edge_rows : (es : List PlanEdge) → sum (counts_of (edge_rows es)) ≡ length es
unfolding sum edge_rows
sum_edge_rows [] = refl
sum_edge_rows (e ∷ es) = sum_joined e.source (edge_rows es) ∙ ap suc (sum_edge_rows es)

sum_place : (q : ℕ) (rs : List TopologyRow) → sum (counts_of (place q rs)) ≡ sum (counts_of rs)
unfolding sum place
sum_place q [] = refl
sum_place q (r ∷ rs) =
    by_test (λ (l : List TopologyRow). sum (counts_of l) ≡ r.count + sum (counts_of rs)) (λ t. omega arith) (λ t.
    by_test (λ (l : List TopologyRow). sum (counts_of l) ≡ r.count + sum (counts_of rs)) (λ u. refl) (λ u. omega (arith, sum_place q rs)))

sum_all : (qs : List ℕ) (rs : List TopologyRow) → sum (counts_of (place_all qs rs)) ≡ sum (counts_of rs)
unfolding place_all
sum_all [] rs = refl
sum_all (q ∷ qs) rs = sum_all qs (place q rs) ∙ sum_place q rs

-- Rows rise exactly where the sources of the edges do not fall.
Rises : List TopologyRow → Bool
Rises rs = rising ltb (sources_of rs)

-- A row before it, less than the new one.
rises_under : (a q : ℕ) (n : ℕ) (rs : List TopologyRow) → a < q → Rises (place q rs) ≡ Rises rs → Rises (record { source = a; count = n } ∷ place q rs) ≡ Rises (record { source = a; count = n } ∷ rs)
unfolding Rises rising place
rises_under a q n [] h e = rw (lt-ltb a q h)
rises_under a q n (r ∷ rs) h e = go e
  where
    go : Rises (place q (r ∷ rs)) ≡ Rises (r ∷ rs) → Rises (record { source = a; count = n } ∷ place q (r ∷ rs)) ≡ Rises (record { source = a; count = n } ∷ r ∷ rs)
    go =
        by_test (λ (l : List TopologyRow). Rises l ≡ Rises (r ∷ rs) → Rises (record { source = a; count = n } ∷ l) ≡ Rises (record { source = a; count = n } ∷ r ∷ rs))
        (λ t x. let f = ltb-true q r.source t in rw (lt-ltb a q h, t, lt-ltb a r.source (omega arith)))
        (λ t. by_test (λ (l : List TopologyRow). Rises l ≡ Rises (r ∷ rs) → Rises (record { source = a; count = n } ∷ l) ≡ Rises (record { source = a; count = n } ∷ r ∷ rs)) (λ u x. refl) (λ u x. ap (λ b. ltb a r.source && b) x))

rises_place : (q : ℕ) (rs : List TopologyRow) → Rises (place q rs) ≡ Rises rs
unfolding Rises place rising
rises_place q [] = refl
rises_place q (r ∷ rs) =
    by_test (λ (l : List TopologyRow). Rises l ≡ Rises (r ∷ rs)) (λ t. rw t) (λ t.
    by_test (λ (l : List TopologyRow). Rises l ≡ Rises (r ∷ rs)) (λ u. refl) (λ u.
    let f = ltb-false q r.source t in
    let g = eqb-false q r.source u in
    rises_under r.source q r.count rs (omega arith) (rises_place q rs)))

rises_all : (qs : List ℕ) (rs : List TopologyRow) → Rises (place_all qs rs) ≡ Rises rs
unfolding place_all
rises_all [] rs = refl
rises_all (q ∷ qs) rs = rises_all qs (place q rs) ∙ rises_place q rs

abbrev stand : List PlanEdge → Bool
stand es = rising leb (map (λ (e : PlanEdge). e.source) es)

rises_joined : (q a : ℕ) (rs : List TopologyRow) → Rises (joined q (joined a rs)) ≡ leb q a && Rises (joined a rs)
unfolding Rises joined rising
rises_joined q a [] =
    by_test (λ (l : List TopologyRow). Rises l ≡ leb q a && true) (λ t. let e = eqb-true q a t in rw (le-leb q a (omega arith)))
    (λ t. let g = eqb-false q a t in by_bool (leb q a) (λ u. let f = leb-true q a u in rw (u, lt-ltb q a (omega arith))) (λ u. let f = leb-false q a u in rw (u, le-ltb q a (omega arith))))
rises_joined q a (r ∷ rs) =
    by_test (λ (m : List TopologyRow). Rises (joined q m) ≡ leb q a && Rises m) (λ t. head_on (suc r.count) rs) (λ t. head_on 1 (r ∷ rs))
  where
    head_on : (n : ℕ) (ms : List TopologyRow) → let m : List TopologyRow = record { source = a; count = n } ∷ ms in Rises (joined q m) ≡ leb q a && Rises m
    head_on n ms =
        by_test (λ (l : List TopologyRow). Rises l ≡ leb q a && Rises (record { source = a; count = n } ∷ ms)) (λ t. let e : q ≡ a = eqb-true q a t in subst (λ (s : ℕ). Rises (record { source = q; count = suc n } ∷ ms) ≡ leb q s && Rises (record { source = s; count = n } ∷ ms)) e (rw (le-leb q q (omega arith))))
        (λ t. let g = eqb-false q a t in by_bool (leb q a) (λ u. let f = leb-true q a u in rw (u, lt-ltb q a (omega arith))) (λ u. let f = leb-false q a u in rw (u, le-ltb q a (omega arith))))

rises_edge_rows : (es : List PlanEdge) → Rises (edge_rows es) ≡ stand es
unfolding Rises edge_rows joined rising
rises_edge_rows [] = refl
rises_edge_rows (e ∷ []) = refl
rises_edge_rows (e ∷ f ∷ es) = rises_joined e.source f.source (edge_rows es) ∙ ap (λ b. leb e.source f.source && b) (rises_edge_rows (f ∷ es))

-- 5
length_mapped : {A B : Type 0} (f : A → B) (xs : List A) → length (map f xs) ≡ length xs
length_mapped f [] = refl
length_mapped f (x ∷ xs) = ap suc (length_mapped f xs)

five : (p : Plan) → malformed_rows (setup_of p) ≡ (not (standing p) || ltb 512 (length p.edges))
unfolding malformed_rows setup_of any_of any
five p =
    let n : length (sources_of (rows p)) ≡ length (counts_of (rows p)) = length_mapped _ (rows p) ∙ sym (length_mapped _ (rows p)) in
    let d : length (map (λ (e : PlanEdge). e.destination) p.edges) ≡ length p.edges = length_mapped _ p.edges in
    let l : length (map (λ (e : PlanEdge). e.lookahead) p.edges) ≡ length p.edges = length_mapped _ p.edges in
    let r : rising ltb (sources_of (rows p)) ≡ standing p = unfold rows Rises in (rises_all (up_to p.n) (edge_rows p.edges) ∙ rises_edge_rows p.edges) in
    let c : sum (counts_of (rows p)) ≡ length p.edges = unfold rows in (sum_all (up_to p.n) (edge_rows p.edges) ∙ sum_edge_rows p.edges) in
    rw (eq-eqb _ _ n, r, c, d, l, eq-eqb (length p.edges) (length p.edges) refl) (tidy (not (standing p)) (ltb 512 (length p.edges)))
  where
    tidy : (a b : Bool) → a || (false || (b || false)) ≡ a || b
    tidy true b = refl
    tidy false true = refl
    tidy false false = refl

-- 3 and 4
rising_up : (i n : ℕ) → rising ltb (up_from i n) ≡ true
unfolding rising up_from
rising_up i zero = refl
rising_up i (suc zero) = refl
rising_up i (suc (suc n)) = rw (lt-ltb i (suc i) (omega arith)) (rising_up (suc i) (suc n))

member_up : (q i n : ℕ) → i ≤ q → q < i + n → member q (up_from i n) ≡ true
unfolding member any up_from
member_up q i zero h k = absurd (omega arith)
member_up q i (suc n) h k = by_bool (eqb q i) (λ t. rw t) (λ t. let g = eqb-false q i t in rw t (member_up q (suc i) n (omega arith) (omega arith)))

none_missing : (n i k : ℕ) → i + k ≤ n → missing (up_from 0 n) (up_from i k) ≡ 0
unfolding missing up_from if◌then◌otherwise◌
none_missing n i zero h = refl
none_missing n i (suc k) h = rw (member_up i 0 n (omega arith) (omega arith)) (omega (arith, none_missing n (suc i) k (omega arith)))

none_unexpected : (n i k : ℕ) → i + k ≤ n → count (leb n) (up_from i k) ≡ 0
unfolding count up_from if◌then◌otherwise◌
none_unexpected n i zero h = refl
none_unexpected n i (suc k) h = rw (lt-leb n i (omega arith)) (omega (arith, none_unexpected n (suc i) k (omega arith)))

-- 6
has_place : (q : ℕ) (rs : List TopologyRow) → member q (sources_of (place q rs)) ≡ true
unfolding place member any
has_place q [] = rw (eq-eqb q q refl)
has_place q (r ∷ rs) =
    by_test (λ (l : List TopologyRow). member q (sources_of l) ≡ true) (λ t. rw (eq-eqb q q refl)) (λ t.
    by_test (λ (l : List TopologyRow). member q (sources_of l) ≡ true) (λ u. rw u) (λ u. rw u (has_place q rs)))

or_right_true : (a b : Bool) → b ≡ true → a || b ≡ true
or_right_true true b h = refl
or_right_true false b h = h

or_mono : (a b c : Bool) → (b ≡ true → c ≡ true) → a || b ≡ true → a || c ≡ true
or_mono true b c f h = refl
or_mono false b c f h = f h

keeps_place : (q x : ℕ) (rs : List TopologyRow) → member x (sources_of rs) ≡ true → member x (sources_of (place q rs)) ≡ true
unfolding place member any
keeps_place q x [] h = absurd (true≢false (sym h))
keeps_place q x (r ∷ rs) h =
    by_test (λ (l : List TopologyRow). member x (sources_of l) ≡ true) (λ t. or_right_true (eqb x q) _ h) (λ t.
    by_test (λ (l : List TopologyRow). member x (sources_of l) ≡ true) (λ u. h) (λ u. or_mono (eqb x r.source) _ _ (keeps_place q x rs) h))

keeps_all : (qs : List ℕ) (x : ℕ) (rs : List TopologyRow) → member x (sources_of rs) ≡ true → member x (sources_of (place_all qs rs)) ≡ true
unfolding place_all
keeps_all [] x rs h = h
keeps_all (q ∷ qs) x rs h = keeps_all qs x (place q rs) (keeps_place q x rs h)

all_placed : (qs : List ℕ) (rs : List TopologyRow) → any (λ q. not (member q (sources_of (place_all qs rs)))) qs ≡ false
unfolding place_all any
all_placed [] rs = refl
all_placed (q ∷ qs) rs = rw (keeps_all qs q (place q rs) (has_place q rs)) (all_placed qs (place q rs))

pub sets : (p : Plan) → Sets p
unfolding setup_of up_to unexpected rows
sets p = record {
  edges = edges_made p;
  five = five p;
  three = rising_up 0 p.n;
  four = omega (arith, none_missing p.n 0 p.n (omega arith), none_unexpected p.n 0 p.n (omega arith));
  six = all_placed (up_to p.n) (edge_rows p.edges);
}
