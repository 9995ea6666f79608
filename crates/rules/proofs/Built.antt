-- What a build that is not refused makes: a state that 11 lets pass, every bound its edge's lookahead, as many edges as destinations.
use mathlib.Core.Path.{◌≡◌, refl, sym, ap, ◌∙◌}
use mathlib.Core.Bool.{Bool, true, false, not, ◌&&◌, ◌||◌}
use mathlib.Core.List.{List, [], ◌∷◌, ◌++◌, map}
use Prim.Native.Nat.{ℕ, zero, suc, ◌≤◌, ◌<◌, min}
use native.Mathlib.Omega.{arith}
use lib.Dec.{ltb, eqb}
use lib.ListN.{length, get_or, take, drop, length-append, length-take, length-drop}
use borrow.Author.Tests.{leb-false, ltb-true, ltb-false, eqb-true, eqb-false, ne_eqb}
use Rattle.rules.specs.Base.{none, some, up_from, up_to, any, any_of, member, non_empty, sum, rising}
use Rattle.rules.specs.State.{Edge, Counters, zeros}
use Rattle.rules.specs.Answers.{Refusal, Accepted, Refused}
use Rattle.rules.specs.Rows.{Row}
use Rattle.rules.specs.Pending.{joins}
use Rattle.rules.specs.Foreign.{duplicate_or_self_edges, horizon_is_max, is_unset}
use Rattle.rules.specs.Build.{Setup, Target, targets, least_lookahead, malformed_rows, destination_rows, topology_rows, build_rows, edge_to, edges_of, built, build, BuildOut}
use Rattle.rules.specs.Refresh.{least}
use Rattle.rules.specs.History.{L}
use Rattle.rules.proofs.Tests.{or_left, or_right, or_both, and_off, not_false}
use Rattle.rules.proofs.Lists.{All, all_map, all_append, all_front, all_rest, all_mapped, all_of, any_none, none_any}
use Rattle.rules.proofs.Table.{Passed, by_firsts, firsts_all}
use Rattle.rules.proofs.Shape.{Joined, Ahead, Shaped}
use Rattle.rules.proofs.Recorded.{recorded_anew}
use Rattle.rules.proofs.Order.{Pairs, rising_pairs}
use Rattle.rules.proofs.Take.{up_from_length}
use Rattle.rules.proofs.Fronts.{LooksFrom}
use Rattle.rules.proofs.Pace.{AtLookahead}

-- One row

-- What 8, 9, 10 and 40 tell of a destination, with those before it in its row.
record Fresh (n p : ℕ) (seen : List ℕ) (t : Target) : Type 0 where
  known : t.destination < n
  other : t.destination ≡ p → ⊥
  unseen : member t.destination seen ≡ false
  ahead : 0 < t.lookahead

abbrev Apart : Target → Target → Type 0
Apart x y = y.destination ≡ x.destination → ⊥

fresh_later : (n p e : ℕ) (seen : List ℕ) (t : Target) → Fresh n p (e ∷ seen) t → Fresh n p seen t × (t.destination ≡ e → ⊥)
unfolding member any
fresh_later n p e seen t i =
    let d = t.destination in
    (record { known = i.known; other = i.other; unseen = or_right (eqb d e) (any (eqb d) seen) i.unseen; ahead = i.ahead }, eqb-false d e (or_left (eqb d e) (any (eqb d) seen) i.unseen))

fresh_row : (n p : ℕ) (seen : List ℕ) (ts : List Target) → Passed (destination_rows n p seen ts) → All (Fresh n p seen) ts × Pairs Apart ts
unfolding destination_rows
fresh_row n p seen [] i = (tt, tt)
fresh_row n p seen (t ∷ ts) i =
    let d = t.destination in
    let r = fresh_row n p (d ∷ seen) ts i.1.1.1.1 in
    let z : (t.lookahead ≡ 0 → ⊥) = eqb-false t.lookahead 0 i.1.1.1.0 in (
      (record { known = leb-false n d i.0; other = eqb-false d p i.1.0; unseen = i.1.1.0; ahead = omega arith }, all_map (Fresh n p (d ∷ seen)) (Fresh n p seen) (λ x f. (fresh_later n p d seen x f).0) ts r.0),
      (all_map (Fresh n p (d ∷ seen)) (Apart t) (λ x f. (fresh_later n p d seen x f).1) ts r.0, r.1),
    )

apart : (p : ℕ) (t : Target) (ts : List Target) → All (Apart t) ts → any (joins p t.destination) (map (edge_to p) ts) ≡ false
apart p t ts i = let d = t.destination in none_any (joins p d) (map (edge_to p) ts) (all_mapped (λ e. joins p d e ≡ false) (edge_to p) ts (all_map (Apart t) (λ x. joins p d (edge_to p x) ≡ false) (λ x n. and_no (eqb p p) (eqb x.destination d) (ne_eqb x.destination d n)) ts i))
  where
    and_no : (a b : Bool) → b ≡ false → a && b ≡ false
    and_no true b e = e
    and_no false b e = refl

once_row : (n p : ℕ) (ts : List Target) → All (Fresh n p []) ts → Pairs Apart ts → duplicate_or_self_edges (map (edge_to p) ts) ≡ false
unfolding duplicate_or_self_edges
once_row n p [] f i = refl
once_row n p (t ∷ ts) f i =
    let d = t.destination in
    or_both (eqb p d || any (joins p d) (map (edge_to p) ts)) (duplicate_or_self_edges (map (edge_to p) ts))
    (or_both (eqb p d) (any (joins p d) (map (edge_to p) ts)) (ne_eqb p d (λ e. f.0.other (sym e))) (apart p t ts i.0))
    (once_row n p ts f.1 i.1)

-- All rows

-- Edges from p, and edges from later sources.
abbrev From : ℕ → Edge → Type 0
From p e = e.source ≡ p

abbrev After : ℕ → Edge → Type 0
After p e = p < e.source

unjoined : (p d : ℕ) (es : List Edge) → All (After p) es → any (joins p d) es ≡ false
unjoined p d es i = none_any (joins p d) es (all_map (After p) (λ e. joins p d e ≡ false) (λ e h. and_off (eqb e.source p) (eqb e.destination d) (ne_eqb e.source p (λ x. omega arith))) es i)

any_append : {A : Type 0} (f : A → Bool) (xs ys : List A) → any f xs ≡ false → any f ys ≡ false → any f (xs ++ ys) ≡ false
any_append f xs ys a b = none_any f (xs ++ ys) (all_append (λ x. f x ≡ false) xs ys (any_none f xs a) (any_none f ys b))

once_append : (p : ℕ) (es fs : List Edge) → All (From p) es → All (After p) fs → duplicate_or_self_edges es ≡ false → duplicate_or_self_edges fs ≡ false → duplicate_or_self_edges (es ++ fs) ≡ false
unfolding duplicate_or_self_edges
once_append p [] fs i j a b = b
once_append p (e ∷ es) fs i j a b =
    let x = eqb e.source e.destination in
    let y = any (joins e.source e.destination) es in
    let u : x || y ≡ false = or_left (x || y) (duplicate_or_self_edges es) a in
    let v : All (After e.source) fs = rw i.0 j in
    or_both (x || any (joins e.source e.destination) (es ++ fs)) (duplicate_or_self_edges (es ++ fs))
    (or_both x (any (joins e.source e.destination) (es ++ fs)) (or_left x y u) (any_append (joins e.source e.destination) es fs (or_right x y u) (unjoined e.source e.destination fs v)))
    (once_append p es fs i.1 j (or_right (x || y) (duplicate_or_self_edges es) a) b)

record Rows (n : ℕ) (es : List Edge) : Type 0 where
  joined : All (Joined n) es
  once : duplicate_or_self_edges es ≡ false
  ahead : All Ahead es

after_rows : (p : ℕ) (sources counts : List ℕ) (ts : List Target) → All (λ q. p < q) sources → All (After p) (edges_of sources counts ts)
unfolding edges_of
after_rows p [] counts ts i = tt
after_rows p (q ∷ sources) [] ts i = tt
after_rows p (q ∷ sources) (k ∷ counts) ts i = all_append (After p) (map (edge_to q) (take k ts)) _ (all_mapped (After p) (edge_to q) (take k ts) (all_of (λ _. p < q) (λ _. i.0) (take k ts))) (after_rows p sources counts (drop k ts) i.1)

-- What the table tells of the edges of all rows.
rows : (n : ℕ) (sources counts : List ℕ) (ts : List Target) → Pairs (λ x y. x < y) sources → Passed (topology_rows n sources counts ts) → Rows n (edges_of sources counts ts)
unfolding topology_rows edges_of duplicate_or_self_edges
rows n [] counts ts r i = record { joined = tt; once = refl; ahead = tt }
rows n (p ∷ sources) [] ts r i = record { joined = tt; once = refl; ahead = tt }
rows n (p ∷ sources) (k ∷ counts) ts r i =
    let here = fresh_row n p [] (take k ts) (all_front (λ (x : Row). x.test ≡ false) (destination_rows n p [] (take k ts)) (topology_rows n sources counts (drop k ts)) i.1) in
    let rest = rows n sources counts (drop k ts) r.1 (all_rest (λ (x : Row). x.test ≡ false) (destination_rows n p [] (take k ts)) (topology_rows n sources counts (drop k ts)) i.1) in
    let es = map (edge_to p) (take k ts) in
    record {
      joined = all_append (Joined n) es _ (all_mapped (Joined n) (edge_to p) (take k ts) (all_map (Fresh n p []) (λ t. Joined n (edge_to p t)) (λ t f. record { source = leb-false n p i.0; destination = f.known }) (take k ts) here.0)) rest.joined;
      once = once_append p es _ (all_mapped (From p) (edge_to p) (take k ts) (all_of (λ t. p ≡ p) (λ _. refl) (take k ts))) (after_rows p sources counts (drop k ts) r.0) (once_row n p (take k ts) here.0 here.1) rest.once;
      ahead = all_append Ahead es _ (all_mapped Ahead (edge_to p) (take k ts) (all_map (Fresh n p []) (λ t. 0 < t.lookahead) (λ t f. f.ahead) (take k ts) here.0)) rest.ahead;
    }

-- What holds of all targets holds of their edges, and the other way round where the rows use up the list.
all_take : {A : Type 0} (P : A → Type 0) (k : ℕ) (xs : List A) → All P xs → All P (take k xs)
all_take P zero xs i = tt
all_take P (suc k) [] i = tt
all_take P (suc k) (x ∷ xs) i = (i.0, all_take P k xs i.1)

all_drop : {A : Type 0} (P : A → Type 0) (k : ℕ) (xs : List A) → All P xs → All P (drop k xs)
all_drop P zero xs i = i
all_drop P (suc k) [] i = tt
all_drop P (suc k) (x ∷ xs) i = all_drop P k xs i.1

all_whole : {A : Type 0} (P : A → Type 0) (k : ℕ) (xs : List A) → All P (take k xs) → All P (drop k xs) → All P xs
all_whole P zero xs i j = j
all_whole P (suc k) [] i j = tt
all_whole P (suc k) (x ∷ xs) i j = (i.0, all_whole P k xs i.1 j)

all_unmapped : {A B : Type 0} (P : B → Type 0) (f : A → B) (xs : List A) → All P (map f xs) → All (λ a. P (f a)) xs
all_unmapped P f [] i = tt
all_unmapped P f (x ∷ xs) i = (i.0, all_unmapped P f xs i.1)

edges_all : (P : Edge → Type 0) (Q : Target → Type 0) → ((p : ℕ) (t : Target) → Q t → P (edge_to p t)) → (sources counts : List ℕ) (ts : List Target) → All Q ts → All P (edges_of sources counts ts)
unfolding edges_of
edges_all P Q f [] counts ts i = tt
edges_all P Q f (p ∷ sources) [] ts i = tt
edges_all P Q f (p ∷ sources) (k ∷ counts) ts i =
    all_append P (map (edge_to p) (take k ts)) _ (all_mapped P (edge_to p) (take k ts) (all_map Q (λ t. P (edge_to p t)) (f p) (take k ts) (all_take Q k ts i))) (edges_all P Q f sources counts (drop k ts) (all_drop Q k ts i))

targets_all : (Q : Target → Type 0) (P : Edge → Type 0) → ((p : ℕ) (t : Target) → P (edge_to p t) → Q t) → (sources counts : List ℕ) (ts : List Target) → length sources ≡ length counts → sum counts ≡ length ts → All P (edges_of sources counts ts) → All Q ts
unfolding edges_of sum
targets_all Q P f [] [] [] e s i = tt
targets_all Q P f [] [] (t ∷ ts) e s i = absurd (omega arith)
targets_all Q P f [] (k ∷ counts) ts e s i = absurd (omega arith)
targets_all Q P f (p ∷ sources) [] ts e s i = absurd (omega arith)
targets_all Q P f (p ∷ sources) (k ∷ counts) ts e s i =
    let es = map (edge_to p) (take k ts) in
    all_whole Q k ts
    (all_map (λ t. P (edge_to p t)) Q (f p) (take k ts) (all_unmapped P (edge_to p) (take k ts) (all_front P es (edges_of sources counts (drop k ts)) i)))
    (targets_all Q P f sources counts (drop k ts) (omega arith) (omega (arith, length-drop k ts)) (all_rest P es (edges_of sources counts (drop k ts)) i))

-- Targets and the lookaheads beside them.
length_targets : (ds ls : List ℕ) → length ls ≡ length ds → length (targets ds ls) ≡ length ds
unfolding targets
length_targets [] ls e = refl
length_targets (d ∷ ds) [] e = absurd (omega arith)
length_targets (d ∷ ds) (l ∷ ls) e = ap suc (length_targets ds ls (omega arith))

beside_all : (P : ℕ → Type 0) (ds ls : List ℕ) → All P ls → All (λ (t : Target). P t.lookahead) (targets ds ls)
unfolding targets
beside_all P [] ls i = tt
beside_all P (d ∷ ds) [] i = tt
beside_all P (d ∷ ds) (l ∷ ls) i = (i.0, beside_all P ds ls i.1)

all_beside : (P : ℕ → Type 0) (ds ls : List ℕ) → length ls ≡ length ds → All (λ (t : Target). P t.lookahead) (targets ds ls) → All P ls
unfolding targets
all_beside P [] [] e i = tt
all_beside P [] (l ∷ ls) e i = absurd (omega arith)
all_beside P (d ∷ ds) [] e i = absurd (omega arith)
all_beside P (d ∷ ds) (l ∷ ls) e i = (i.0, all_beside P ds ls (omega arith) i.1)

-- The least lookahead is at most each, and above 0 where all are.
least_le : (m : ℕ) (xs : List ℕ) → (least m xs ≤ m) × All (λ x. least m xs ≤ x) xs
unfolding least
least_le m [] = (omega arith, tt)
least_le m (x ∷ xs) = let r = least_le (min m x) xs in (omega (arith, r.0), (omega (arith, r.0), r.1))

least_above : (m : ℕ) (xs : List ℕ) → 0 < m → All (λ x. 0 < x) xs → 0 < least m xs
unfolding least
least_above m [] h i = h
least_above m (x ∷ xs) h i = least_above (min m x) xs (omega (arith, i.0)) i.1

least_lookahead_le : (L : ℕ) (ls : List ℕ) → All (λ l. least_lookahead L ls ≤ l) ls
unfolding least_lookahead
least_lookahead_le L [] = tt
least_lookahead_le L (l ∷ ls) = least_le l ls

least_lookahead_above : (L : ℕ) (ls : List ℕ) → 0 < L → All (λ x. 0 < x) ls → 0 < least_lookahead L ls
unfolding least_lookahead
least_lookahead_above L [] h i = h
least_lookahead_above L (l ∷ ls) h i = least_above l ls i.0 i.1

-- As many edges as destinations.
length_map : {A B : Type 0} (f : A → B) (xs : List A) → length (map f xs) ≡ length xs
length_map f [] = refl
length_map f (x ∷ xs) = ap suc (length_map f xs)

length_edges_of : (sources counts : List ℕ) (ts : List Target) → length sources ≡ length counts → sum counts ≡ length ts → length (edges_of sources counts ts) ≡ length ts
unfolding edges_of sum
length_edges_of [] [] ts e s = s
length_edges_of [] (k ∷ counts) ts e s = absurd (omega arith)
length_edges_of (p ∷ sources) [] ts e s = absurd (omega arith)
length_edges_of (p ∷ sources) (k ∷ counts) ts e s =
    let i = length_edges_of sources counts (drop k ts) (omega arith) (omega (arith, length-drop k ts)) in
    omega (arith, i, length-append (map (edge_to p) (take k ts)) (edges_of sources counts (drop k ts)), length_map (edge_to p) (take k ts), length-take k ts, length-drop k ts)

-- A build that is accepted passed its table.
unfoldable Clean : Setup → BuildOut → Type 0
Clean a m = m.answer ≡ Accepted → Passed (build_rows a)

refused_not : (a : Setup) (c : Counters) (r : Refusal) → Clean a (record { answer = Refused r; made = none; counters = c })
unfolding Clean
refused_not a c r e = let z : ◌≡◌ {A = ℕ} 0 1 = cc in absurd (omega arith)

accepted_clean : (a : Setup) (c : Counters) → Passed (build_rows a) → Clean a (record { answer = Accepted; made = some (built a); counters = c })
unfolding Clean
accepted_clean a c p e = p

clean : (a : Setup) (c : Counters) → Clean a (build a c)
unfolding build
clean a c = by_firsts (Clean a) (build_rows a) _ _ (firsts_all (λ r. Clean a (record { answer = Refused r; made = none; counters = c })) (build_rows a) (all_of (λ (r : Row). Clean a (record { answer = Refused r.refusal; made = none; counters = c })) (λ r. refused_not a c r.refusal) (build_rows a))) (λ p. accepted_clean a zeros p)

pub record Makes (a : Setup) : Type 0 where
  pub shaped : Shaped (built a)
  pub bounds : All AtLookahead (built a).edges
  pub looks : All (LooksFrom (L a)) (built a).edges
  pub least : 0 < L a
  pub edges : length (built a).edges ≡ length a.destinations

-- Every local horizon is 0 at first.
abbrev pub noughts : ℕ → ℕ → List ℕ
noughts i n = map (λ p. 0) (up_from i n)

length_noughts : (i n : ℕ) → length (noughts i n) ≡ n
length_noughts i n = length_map {B = ℕ} (λ p. 0) (up_from i n) ∙ up_from_length i n

pub noughts_at : (i n p : ℕ) → get_or (noughts i n) p 0 ≡ 0
unfolding up_from
noughts_at i zero p = refl
noughts_at i (suc n) zero = refl
noughts_at i (suc n) (suc p) = noughts_at (suc i) n p

rising_sources : (xs : List ℕ) → rising ltb xs ≡ true → Pairs (λ x y. x < y) xs
rising_sources xs h = rising_pairs ltb (λ x y. x < y) (λ x y e. ltb-true x y e) (λ x y z a b. omega arith) xs h

pub makes : (a : Setup) (c : Counters) → (build a c).answer ≡ Accepted → Makes a
unfolding Clean built malformed_rows any_of up_to non_empty rising horizon_is_max is_unset
makes a c e =
    let p = clean a c e in
    let ts = targets a.destinations a.lookaheads in
    let m =
    any_none (λ (t : Bool). t)
    (not (eqb (length a.sources) (length a.counts)) ∷ not (rising ltb a.sources) ∷ not (eqb (sum a.counts) (length a.destinations)) ∷ ltb 512 (length a.destinations) ∷ not (eqb (length a.lookaheads) (length a.destinations)) ∷ [])
    p.1.1.1.1.0 in
    let paired : length a.sources ≡ length a.counts = eqb-true _ _ (not_false _ m.0) in
    let beside : length a.lookaheads ≡ length a.destinations = eqb-true _ _ (not_false _ m.1.1.1.1.0) in
    let whole : length ts ≡ length a.destinations = length_targets a.destinations a.lookaheads beside in
    let used_up : sum a.counts ≡ length ts = eqb-true _ _ (not_false _ m.1.1.0) ∙ sym whole in
    let r = rows a.n a.sources a.counts ts (rising_sources a.sources (not_false _ m.1.0)) p.1.1.1.1.1.1 in
    let l : length (edges_of a.sources a.counts ts) ≡ length a.destinations = length_edges_of a.sources a.counts ts paired used_up ∙ whole in
    let z : (a.lookahead ≡ 0 → ⊥) = eqb-false a.lookahead 0 p.1.0 in
    record {
      shaped = record {
        sized = record {
          some = let x : (a.n ≡ 0 → ⊥) = eqb-false a.n 0 (or_left (eqb a.n 0) (ltb 64 a.n) p.0) in omega arith;
          few = ltb-false 64 a.n (or_right (eqb a.n 0) (ltb 64 a.n) p.0);
          ahead = omega arith;
          wide = length_noughts 0 a.n;
        };
        wired = record { few = omega (arith, l, ltb-false 512 (length a.destinations) m.1.1.1.0); joined = r.joined; once = r.once; ahead = r.ahead };
        queued = record { few = omega arith; short = tt; known = tt; order = refl; numbers = tt };
        held = record { few = omega arith; short = tt; known = tt; order = refl };
        runs = record { below = refl; stored = refl; opened = refl };
        recorded = recorded_anew a.n (edges_of a.sources a.counts ts);
      };
      bounds = edges_all AtLookahead (λ _. Unit {0}) (λ _ _ _. refl) a.sources a.counts ts (all_of (λ _. Unit {0}) (λ _. tt) ts);
      looks = edges_all (LooksFrom (L a)) (λ t. L a ≤ t.lookahead) (λ _ _ h. h) a.sources a.counts ts (beside_all (λ x. L a ≤ x) a.destinations a.lookaheads (least_lookahead_le a.lookahead a.lookaheads));
      least = least_lookahead_above a.lookahead a.lookaheads (omega arith) (all_beside (λ x. 0 < x) a.destinations a.lookaheads beside (targets_all (λ t. 0 < t.lookahead) Ahead (λ _ _ h. h) a.sources a.counts ts paired used_up r.ahead));
      edges = l;
    }
