-- A.2's record: what `inbound_of` makes is right, and with a right record safe(p) is document 01's, the least of H and the bounds of the edges into p.
use mathlib.Core.Path.{◌≡◌, refl, ap, ◌∙◌}
use mathlib.Core.Bool.{Bool, true, false}
use mathlib.Core.List.{List, [], ◌∷◌, map}
use Prim.Native.Nat.{ℕ, zero, suc, ◌+◌, ◌≤◌, ◌<◌, min}
use native.Mathlib.Omega.{arith}
use lib.Dec.{leb, eqb}
use lib.ListN.{length, get_or}
use borrow.Author.Tests.{eqb-true, eqb-false, leb-true, leb-false}
use Rattle.rules.specs.Base.{if◌then◌otherwise◌, up_from, up_to}
use Rattle.rules.specs.State.{Edge, State, stored, max_tick}
use Rattle.rules.specs.Frontiers.{least_into, least_inbound, inbound_of, recorded, safe}
use Rattle.rules.specs.Foreign.{foreign}
use Rattle.rules.proofs.Tests.{by_test, by_bool}
use Rattle.rules.proofs.Lists.{All, all_map, all_both, all_number, at_number}
use Rattle.rules.proofs.Shape.{Joined, Recorded, shaped, below_top}

-- What the record has for a process.
pub record_at : (n : ℕ) (m : List ℕ) (es : List Edge) → Recorded n m es → (p : ℕ) → p < n → recorded m p ≡ least_inbound es p
unfolding up_to
record_at n m es i p h = at_number (λ p. recorded m p ≡ least_inbound es p) 0 n i.right p (omega arith) (omega arith)

-- Made anew of the edges, it is right.
made_at : (f : ℕ → ℕ) (d i n p : ℕ) → p < n → get_or (map f (up_from i n)) p d ≡ f (i + p)
unfolding up_from
made_at f d i zero p h = absurd (omega arith)
made_at f d i (suc n) zero h = let z : i ≡ i + 0 = omega arith in ap f z
made_at f d i (suc n) (suc p) h = let z : suc i + p ≡ i + suc p = omega arith in made_at f d (suc i) n p (omega arith) ∙ ap f z

made_long : (f : ℕ → ℕ) (i n : ℕ) → length (map f (up_from i n)) ≡ n
unfolding up_from
made_long f i zero = refl
made_long f i (suc n) = ap suc (made_long f (suc i) n)

pub recorded_anew : (n : ℕ) (es : List Edge) → Recorded n (inbound_of n es) es
unfolding inbound_of up_to
recorded_anew n es = record {
  wide = made_long (least_inbound es) 0 n;
  right = all_number (λ p. recorded (map (least_inbound es) (up_from 0 n)) p ≡ least_inbound es p) 0 n (λ p a b. let z : 0 + p ≡ p = omega arith in made_at (least_inbound es) max_tick 0 n p (omega arith) ∙ ap (least_inbound es) z);
}

-- The least of H and the bounds into p is at most each of these bounds.
least_tail : (e : Edge) (es : List Edge) (H p : ℕ) → least_into (e ∷ es) H p ≤ least_into es H p
unfolding least_into
least_tail e es H p = by_test (λ (x : ℕ). x ≤ least_into es H p) (λ t. omega arith) (λ t. omega arith)

least_head : (e : Edge) (es : List Edge) (H : ℕ) → least_into (e ∷ es) H e.destination ≤ e.bound
unfolding least_into
least_head e es H = by_test (λ (x : ℕ). x ≤ e.bound) (λ t. omega arith) (λ t. absurd (eqb-false e.destination e.destination t refl))

least_bounds : (es : List Edge) (H : ℕ) → All (λ (e : Edge). least_into es H e.destination ≤ e.bound) es
least_bounds [] H = tt
least_bounds (e ∷ es) H =
    (least_head e es H, all_map (λ (f : Edge). least_into es H f.destination ≤ f.bound) (λ (f : Edge). least_into (e ∷ es) H f.destination ≤ f.bound) (λ f k. omega (arith, k, least_tail e es H f.destination)) es (least_bounds es H))

-- What the record has is at most each bound.
abbrev pub RecordBelow : List ℕ → List Edge → Type 0
RecordBelow m es = All (λ (e : Edge). recorded m e.destination ≤ e.bound) es

pub record_below : (n : ℕ) (m : List ℕ) (es : List Edge) → Recorded n m es → All (Joined n) es → RecordBelow m es
record_below n m es i j =
    all_map (λ (e : Edge). (least_into es max_tick e.destination ≤ e.bound) × Joined n e) (λ (e : Edge). recorded m e.destination ≤ e.bound)
    (λ e k. omega (arith, k.0, record_at n m es i e.destination k.1.destination)) es (all_both (λ (e : Edge). least_into es max_tick e.destination ≤ e.bound) (Joined n) es (least_bounds es max_tick) j)

-- A cap that is lower than another.
least_cap : (es : List Edge) (T H p : ℕ) → H ≤ T → min (least_into es T p) H ≡ least_into es H p
unfolding least_into if◌then◌otherwise◌
least_cap [] T H p h = omega arith
least_cap (e ∷ es) T H p h = go (eqb e.destination p) (least_cap es T H p h)
  where
    go : (t : Bool) → min (least_into es T p) H ≡ least_into es H p → min (if t then min e.bound (least_into es T p) otherwise least_into es T p) H ≡ (if t then min e.bound (least_into es H p) otherwise least_into es H p)
    go true i = omega (arith, i)
    go false i = i

-- Nothing leads to a process that is not there.
nothing_into : (n : ℕ) (es : List Edge) (H p : ℕ) → All (Joined n) es → n ≤ p → least_into es H p ≡ H
unfolding least_into
nothing_into n [] H p j h = refl
nothing_into n (e ∷ es) H p j h = by_test (λ (x : ℕ). x ≡ H) (λ t. absurd (omega (arith, eqb-true e.destination p t, j.0.destination))) (λ t. nothing_into n es H p j.1 h)

past_end : (m : List ℕ) (d p : ℕ) → length m ≤ p → get_or m p d ≡ d
past_end [] d p h = refl
past_end (x ∷ m) d zero h = absurd (omega arith)
past_end (x ∷ m) d (suc p) h = past_end m d p (omega arith)

lesser : (T H : ℕ) → H ≤ T → min T H ≡ H
lesser T H h = omega arith

safe_least : (n : ℕ) (m : List ℕ) (es : List Edge) (H p : ℕ) → Recorded n m es → All (Joined n) es → H ≤ max_tick → safe m H p ≡ least_into es H p
unfolding safe
safe_least n m es H p i j h =
    by_bool (leb n p)
    (λ t. let z : n ≤ p = leb-true n p t in rw (past_end m max_tick p (omega (arith, i.wide)), nothing_into n es H p j z) (lesser max_tick H h))
    (λ t. rw (record_at n m es i p (leb-false n p t)) (least_cap es max_tick H p h))

-- On states that 11 lets pass, in a run with the horizon h, safe(p) is the least of H and the bounds of the edges into p, as document 01 wrote it.
pub safe_is_least : (s : State) (h b p : ℕ) → foreign s ≡ false → s.stored ≡ stored h b → safe s.inbound (suc h) p ≡ least_into s.edges (suc h) p
safe_is_least s h b p f e =
    let w = shaped s f in
    safe_least s.n s.inbound s.edges (suc h) p w.recorded w.wired.joined (below_top s.stored h b e w.runs.below)
