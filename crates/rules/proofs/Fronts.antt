-- An advance raises the least bound by the lookahead, or to the end.
use mathlib.Core.Path.{◌≡◌, refl, ap}
use mathlib.Core.Bool.{Bool, true, false, ◌&&◌, ◌||◌, true≢false}
use mathlib.Core.List.{List, [], ◌∷◌}
use Prim.Native.Nat.{ℕ, suc, ◌+◌, ◌-◌, ◌≤◌, ◌<◌, min, max}
use native.Mathlib.Omega.{arith}
use lib.Dec.{leb, ltb}
use lib.ListN.{length}
use borrow.Author.Tests.{ltb-true, ltb-false, leb-true, leb-false, le-leb, le-ltb}
use Rattle.rules.specs.Base.{if◌then◌otherwise◌, Maybe, none, some, is_some, up_from, up_to, any, every, non_empty}
use Rattle.rules.specs.State.{Event, Edge, State, max_tick}
use Rattle.rules.specs.Pending.{first_of, tick_or, first_tick}
use Rattle.rules.specs.Frontiers.{least_into, recorded, safe, below, eligible, any_eligible}
use Rattle.rules.specs.Refresh.{raised}
use Rattle.rules.specs.Step.{take_eligible_at, take_eligible, input_frontier, new_bound, raised_edges, count_raised, any_raised}
use Rattle.rules.proofs.Tests.{by_test, by_bool, or_both, and_left, and_right, and_both, and_other}
use Rattle.rules.proofs.Lists.{All, at_number, any_none}
use Rattle.rules.proofs.Cases.{Advances}
use Rattle.rules.proofs.Shape.{Joined, Recorded, shaped, below_top}
use Rattle.rules.proofs.Recorded.{record_at}

-- The least of the bounds, at most c.
unfoldable pub lowest : List Edge → ℕ → ℕ
lowest [] c = c
lowest (e ∷ es) c = min e.bound (lowest es c)

-- With room, an empty batch means that nobody is eligible.
empty_take : (m : List ℕ) (H : ℕ) (q : List Event) (k : ℕ) (ps : List ℕ) → non_empty (take_eligible m H ps (suc k) q).events ≡ false → any_eligible m H q ps ≡ false
unfolding take_eligible take_eligible_at any_eligible any non_empty is_some
empty_take m H q k [] h = refl
empty_take m H q k (p ∷ ps) h = go (eligible m H q p) h (empty_take m H q k ps)
  where
    go : (x : Maybe Event) → non_empty (take_eligible_at x p q (suc k) (take_eligible m H ps)).events ≡ false → (non_empty (take_eligible m H ps (suc k) q).events ≡ false → any_eligible m H q ps ≡ false) → is_some x || any_eligible m H q ps ≡ false
    go none h ih = ih h
    go (some e) h ih = absurd (true≢false h)

none_left : (m : List ℕ) (H used b : ℕ) (q : List Event) (ps : List ℕ) → non_empty (take_eligible m H ps (b - used) q).events ≡ false → leb b used && any_eligible m H q ps ≡ false → any_eligible m H q ps ≡ false
none_left m H used b q ps h k = by_bool (leb b used) (λ e. and_other (leb b used) (any_eligible m H q ps) e k) (λ e. let l : used < b = leb-false b used e in room (b - used - 1) (omega arith))
  where
    room : (r : ℕ) → b - used ≡ suc r → any_eligible m H q ps ≡ false
    room r e = empty_take m H q r ps (rw e at h)

-- At an advance nobody is eligible.
pub none_eligible : (s : State) (h b : ℕ) → Advances s h b → (p : ℕ) → p < s.n → is_some (eligible s.inbound (suc h) s.pending p) ≡ false
unfolding up_to any_eligible
none_eligible s h b a p q =
    let f : ℕ → Bool = λ p. is_some (eligible s.inbound (suc h) s.pending p) in
    at_number (λ p. f p ≡ false) 0 s.n (any_none f (up_from 0 s.n) (none_left s.inbound (suc h) s.used b s.pending (up_from 0 s.n) a.none_taken a.not_spent)) p (omega arith) (omega arith)

-- safe(p) is at most H, and at least the least bound.
pub safe_le : (m : List ℕ) (H p : ℕ) → safe m H p ≤ H
unfolding safe
safe_le m H p = omega arith

least_low : (es : List Edge) (T p c : ℕ) → min T (lowest es c) ≤ least_into es T p
unfolding least_into lowest
least_low [] T p c = omega arith
least_low (e ∷ es) T p c = let i = least_low es T p c in by_test (λ (x : ℕ). min T (min e.bound (lowest es c)) ≤ x) (λ t. omega arith) (λ t. omega arith)

lesser_low : (T H l r : ℕ) → H ≤ T → min T l ≤ r → min H l ≤ min r H
lesser_low T H l r h i = omega arith

safe_low : (n : ℕ) (m : List ℕ) (es : List Edge) (H p c : ℕ) → Recorded n m es → p < n → H ≤ max_tick → min H (lowest es c) ≤ safe m H p
unfolding safe
safe_low n m es H p c i q h = lesser_low max_tick H (lowest es c) (recorded m p) h (rw (record_at n m es i p q) (least_low es max_tick p c))

-- Where p is not eligible, its input frontier is safe(p).
late : (e : Event) (k : ℕ) → is_some (below k (some e)) ≡ false → k ≤ e.tick
unfolding below is_some if◌then◌otherwise◌
late e k h = go (ltb e.tick k) refl h
  where
    go : (t : Bool) → ltb e.tick k ≡ t → is_some (if t then some e otherwise none) ≡ false → k ≤ e.tick
    go true d h = absurd (true≢false h)
    go false d h = ltb-false e.tick k d

frontier_safe : (s : State) (H p : ℕ) → is_some (eligible s.inbound H s.pending p) ≡ false → safe s.inbound H p ≤ input_frontier s H p
unfolding eligible input_frontier first_tick tick_or
frontier_safe s H p h = go (first_of s.pending p) h
  where
    go : (m : Maybe Event) → is_some (below (safe s.inbound H p) m) ≡ false → safe s.inbound H p ≤ min (safe s.inbound H p) (tick_or m H)
    go none h = omega (arith, safe_le s.inbound H p)
    go (some e) h = omega (arith, late e (safe s.inbound H p) h)

-- At an advance every process's input frontier is at the least bound or beyond, and at most H.
pub frontier_low : (s : State) (h b c : ℕ) → Advances s h b → (p : ℕ) → p < s.n → min (suc h) (lowest s.edges c) ≤ input_frontier s (suc h) p
frontier_low s h b c a p q =
    let w = shaped s a.steps.passes in
    omega (arith, frontier_safe s (suc h) p (none_eligible s h b a p q), safe_low s.n s.inbound s.edges (suc h) p c w.recorded q (below_top s.stored h b a.steps.stored w.runs.below))

pub frontier_le : (s : State) (H p : ℕ) → input_frontier s H p ≤ H
unfolding input_frontier
frontier_le s H p = omega (arith, safe_le s.inbound H p)

-- What a bound rises to is min(H, input frontier + L): overflow changes nothing where H is a tick.
choose_low : (T H a : ℕ) → min H a ≤ (if ltb T a then H otherwise min H a)
choose_low T H a = by_test (λ (x : ℕ). min H a ≤ x) (λ t. omega arith) (λ t. omega arith)

choose_le : (T H a : ℕ) → (if ltb T a then H otherwise min H a) ≤ H
choose_le T H a = by_test (λ (x : ℕ). x ≤ H) (λ t. omega arith) (λ t. omega arith)

choose_high : (T H a : ℕ) → H ≤ T → (if ltb T a then H otherwise min H a) ≤ min H a
choose_high T H a h = by_test (λ (x : ℕ). x ≤ min H a) (λ t. omega (arith, ltb-true T a t)) (λ t. omega arith)

pub bound_low : (s : State) (H : ℕ) (e : Edge) → min H (input_frontier s H e.source + e.lookahead) ≤ new_bound s H e
unfolding new_bound
bound_low s H e = choose_low max_tick H (input_frontier s H e.source + e.lookahead)

pub bound_le : (s : State) (H : ℕ) (e : Edge) → new_bound s H e ≤ H
unfolding new_bound
bound_le s H e = choose_le max_tick H (input_frontier s H e.source + e.lookahead)

pub bound_high : (s : State) (H : ℕ) (e : Edge) → H ≤ max_tick → new_bound s H e ≤ min H (input_frontier s H e.source + e.lookahead)
unfolding new_bound
bound_high s H e h = choose_high max_tick H (input_frontier s H e.source + e.lookahead) h

-- Bounds

abbrev one_if : Bool → ℕ
one_if b = if b then 1 otherwise 0

one_le : (a b : ℕ) → one_if (ltb a b) ≤ 1
one_le a b = by_test (λ (x : ℕ). x ≤ 1) (λ t. omega arith) (λ t. omega arith)

one_zero : (a b : ℕ) → one_if (ltb a b) ≡ 0 → b ≤ a
one_zero a b = by_test (λ (x : ℕ). x ≡ 0 → b ≤ a) (λ t h. absurd (omega arith)) (λ t h. ltb-false a b t)

one_none : (a b : ℕ) → b ≤ a → one_if (ltb a b) ≡ 0
one_none a b h = by_test (λ (x : ℕ). x ≡ 0) (λ t. absurd (omega (arith, ltb-true a b t))) (λ t. refl)

-- An edge's lookahead is L or more.
abbrev pub LooksFrom : ℕ → Edge → Type 0
LooksFrom L e = L ≤ e.lookahead

pub looks_raised : (s : State) (H L : ℕ) (es : List Edge) → All (LooksFrom L) es → All (LooksFrom L) (raised_edges s H es)
unfolding raised_edges
looks_raised s H L [] i = tt
looks_raised s H L (e ∷ es) i = (i.0, looks_raised s H L es i.1)

-- Where every process's input frontier is K or beyond, and every edge's lookahead L or more, each bound rises to K + L or to H.
module _ (s : State) (H K L : ℕ) (to : (p : ℕ) → p < s.n → K ≤ input_frontier s H p) where
  pub low_raised : (es : List Edge) (c : ℕ) → All (Joined s.n) es → All (LooksFrom L) es → min c (min H (K + L)) ≤ lowest (raised_edges s H es) c
  unfolding raised_edges lowest
  low_raised [] c i j = omega arith
  low_raised (e ∷ es) c i j = omega (arith, low_raised es c i.1 j.1, j.0, to e.source i.0.source, bound_low s H e)

  -- No bound rose: each was there already.
  pub low_unraised : (es : List Edge) (c : ℕ) → All (Joined s.n) es → All (LooksFrom L) es → count_raised es (raised_edges s H es) ≡ 0 → min c (min H (K + L)) ≤ lowest es c
  unfolding raised_edges lowest count_raised
  low_unraised [] c i j h = omega arith
  low_unraised (e ∷ es) c i j h =
      let x = new_bound s H e in
      let z : one_if (ltb e.bound (max e.bound x)) ≡ 0 = omega arith in
      omega (arith, low_unraised es c i.1 j.1 (omega arith), j.0, to e.source i.0.source, bound_low s H e, one_zero e.bound (max e.bound x) z)

pub low_grows : (s : State) (H : ℕ) (es : List Edge) (c : ℕ) → lowest es c ≤ lowest (raised_edges s H es) c
unfolding raised_edges lowest
low_grows s H [] c = omega arith
low_grows s H (e ∷ es) c = omega (arith, low_grows s H es c)

pub count_le : (s : State) (H : ℕ) (es : List Edge) → count_raised es (raised_edges s H es) ≤ length es
unfolding raised_edges count_raised
count_le s H [] = omega arith
count_le s H (e ∷ es) = omega (arith, count_le s H es, one_le e.bound (max e.bound (new_bound s H e)))

-- All bounds are at H: none rises.
pub count_none : (s : State) (H c : ℕ) (es : List Edge) → H ≤ lowest es c → count_raised es (raised_edges s H es) ≡ 0
unfolding raised_edges count_raised lowest
count_none s H c [] h = refl
count_none s H c (e ∷ es) h = omega (arith, count_none s H c es (omega arith), one_none e.bound (max e.bound (new_bound s H e)) (omega (arith, bound_le s H e)))

pub length_edges : (s : State) (H : ℕ) (es : List Edge) → length (raised_edges s H es) ≡ length es
unfolding raised_edges
length_edges s H [] = refl
length_edges s H (e ∷ es) = ap suc (length_edges s H es)

-- A larger cap, a larger least.
pub low_more : (es : List Edge) (c d : ℕ) → c ≤ d → lowest es c ≤ lowest es d
unfolding lowest
low_more [] c d h = h
low_more (e ∷ es) c d h = omega (arith, low_more es c d h)

pub low_cap : (es : List Edge) (c : ℕ) → lowest es c ≤ c
unfolding lowest
low_cap [] c = omega arith
low_cap (e ∷ es) c = omega (arith, low_cap es c)

-- Local horizons

-- Everybody's input frontier is at least H: all are there.
pub all_raised : (to : ℕ → ℕ) (H i : ℕ) (hs : List ℕ) → ((p : ℕ) → p < i + length hs → H ≤ to p) → every (leb H) (raised to i hs) ≡ true
unfolding raised every
all_raised to H i [] a = refl
all_raised to H i (h ∷ hs) a = and_both (leb H (max h (to i))) (every (leb H) (raised to (suc i) hs)) (le-leb H (max h (to i)) (omega (arith, a i (omega arith)))) (all_raised to H (suc i) hs (λ p q. a p (omega arith)))

-- Those that are there stay there.
pub all_stay : (to : ℕ → ℕ) (H i : ℕ) (hs : List ℕ) → every (leb H) hs ≡ true → every (leb H) (raised to i hs) ≡ true
unfolding raised every
all_stay to H i [] h = refl
all_stay to H i (x ∷ hs) h = and_both (leb H (max x (to i))) (every (leb H) (raised to (suc i) hs)) (le-leb H (max x (to i)) (omega (arith, leb-true H x (and_left (leb H x) (every (leb H) hs) h)))) (all_stay to H (suc i) hs (and_right (leb H x) (every (leb H) hs) h))

-- Where all are at H, none rises to what is at most H.
pub none_raised : (to : ℕ → ℕ) (H i : ℕ) (hs : List ℕ) → ((p : ℕ) → to p ≤ H) → every (leb H) hs ≡ true → any_raised hs (raised to i hs) ≡ false
unfolding raised every any_raised
none_raised to H i [] a h = refl
none_raised to H i (x ∷ hs) a h =
    or_both (ltb x (max x (to i))) (any_raised hs (raised to (suc i) hs)) (le-ltb x (max x (to i)) (omega (arith, a i, leb-true H x (and_left (leb H x) (every (leb H) hs) h)))) (none_raised to H (suc i) hs a (and_right (leb H x) (every (leb H) hs) h))
