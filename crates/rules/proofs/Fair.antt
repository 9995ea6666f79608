-- The invariant behind order: what is handed out, pending, in hand, and how bounds and local horizons hold it.
use mathlib.Core.Path.{◌≡◌, ap}
use mathlib.Core.List.{List, [], ◌∷◌}
use Prim.Native.Nat.{ℕ, zero, suc, ◌+◌, ◌≤◌, ◌<◌, max}
use native.Mathlib.Omega.{arith}
use native.Mathlib.Nat.{add-zero, add-suc, suc-add, zero-add}
use lib.ListN.{length, get_or}
use Rattle.rules.specs.State.{Event, Message, Edge, State, max_tick}
use Rattle.rules.specs.Frontiers.{recorded, safe}
use Rattle.rules.specs.Refresh.{raised}
use Rattle.rules.specs.Step.{input_frontier, raised_edges}
use Rattle.rules.proofs.Lists.{All, all_map, all_both}
use Rattle.rules.proofs.Shape.{Joined}
use Rattle.rules.proofs.Recorded.{RecordBelow}
use Rattle.rules.proofs.Fronts.{bound_high}

-- Local horizons that rise: not below what they were or what they rise to, and not above both.
pub raised_ge : (to : ℕ → ℕ) (i : ℕ) (hs : List ℕ) (p : ℕ) → get_or hs p 0 ≤ get_or (raised to i hs) p 0
unfolding raised
raised_ge to i [] p = omega arith
raised_ge to i (h ∷ hs) zero = omega arith
raised_ge to i (h ∷ hs) (suc p) = raised_ge to (suc i) hs p

raised_le_from : (to : ℕ → ℕ) (i : ℕ) (hs : List ℕ) (p : ℕ) → get_or (raised to i hs) p 0 ≤ max (get_or hs p 0) (to (i + p))
unfolding raised
raised_le_from to i [] p = omega arith
raised_le_from to i (h ∷ hs) zero = rw add-zero (omega arith)
raised_le_from to i (h ∷ hs) (suc p) = rw (add-suc, ← suc-add i p) (raised_le_from to (suc i) hs p)

raised_at_from : (to : ℕ → ℕ) (i : ℕ) (hs : List ℕ) (p : ℕ) → p < length hs → to (i + p) ≤ get_or (raised to i hs) p 0
unfolding raised
raised_at_from to i [] p h = absurd (omega arith)
raised_at_from to i (x ∷ hs) zero h = rw add-zero (omega arith)
raised_at_from to i (x ∷ hs) (suc p) h = rw (add-suc, ← suc-add i p) (raised_at_from to (suc i) hs p (omega arith))

pub raised_le : (to : ℕ → ℕ) (hs : List ℕ) (p : ℕ) → get_or (raised to 0 hs) p 0 ≤ max (get_or hs p 0) (to p)
raised_le to hs p = simp zero-add at (raised_le_from to 0 hs p)

pub raised_at : (to : ℕ → ℕ) (hs : List ℕ) (p : ℕ) → p < length hs → to p ≤ get_or (raised to 0 hs) p 0
raised_at to hs p h = simp zero-add at (raised_at_from to 0 hs p h)

-- a: a pending event at p is not below h(p).
abbrev pub Floor : List ℕ → Event → Type 0
Floor hs e = get_or hs e.destination 0 ≤ e.tick

pub floor_raised : (to : ℕ → ℕ) (hs : List ℕ) (q : List Event) → All (λ (e : Event). to e.destination ≤ e.tick) q → All (Floor hs) q → All (Floor (raised to 0 hs)) q
floor_raised to hs q f i = all_map (λ e. (to e.destination ≤ e.tick) × Floor hs e) (Floor (raised to 0 hs)) (λ e k. omega (arith, k.0, k.1, raised_le to hs e.destination)) q (all_both (λ (e : Event). to e.destination ≤ e.tick) (Floor hs) q f i)

-- b: a bound is at most its source's local horizon and the edge's lookahead.
abbrev pub Reach : List ℕ → Edge → Type 0
Reach hs e = e.bound ≤ get_or hs e.source 0 + e.lookahead

pub reach_more : (to : ℕ → ℕ) (hs : List ℕ) (es : List Edge) → All (Reach hs) es → All (Reach (raised to 0 hs)) es
reach_more to hs es i = all_map (Reach hs) (Reach (raised to 0 hs)) (λ e r. omega (arith, r, raised_ge to 0 hs e.source)) es i

pub reach_raised : (s : State) (H : ℕ) (es : List Edge) → H ≤ max_tick → length s.horizons ≡ s.n → All (Joined s.n) es → All (Reach s.horizons) es → All (Reach (raised (input_frontier s H) 0 s.horizons)) (raised_edges s H es)
unfolding raised_edges
reach_raised s H [] t l w i = tt
reach_raised s H (e ∷ es) t l w i = (
  omega (arith, i.0, raised_ge (input_frontier s H) 0 s.horizons e.source, raised_at (input_frontier s H) s.horizons e.source (omega (arith, w.0.source, l)), bound_high s H e t),
  reach_raised s H es t l w.1 i.1,
)

-- c: h(p) is at most the bound of each edge into p.
abbrev pub Capped : List ℕ → Edge → Type 0
Capped hs e = get_or hs e.destination 0 ≤ e.bound

pub safe_bounds : (m : List ℕ) (es : List Edge) (H : ℕ) → RecordBelow m es → All (λ (e : Edge). safe m H e.destination ≤ e.bound) es
unfolding safe
safe_bounds m es H r = all_map (λ (e : Edge). recorded m e.destination ≤ e.bound) (λ (e : Edge). safe m H e.destination ≤ e.bound) (λ e k. omega (arith, k)) es r

-- Horizons that rise to at most their frontier stay below the bounds.
pub capped_raised : (to : ℕ → ℕ) (H : ℕ) (hs m : List ℕ) (es : List Edge) → RecordBelow m es → ((p : ℕ) → to p ≤ safe m H p) → All (Capped hs) es → All (Capped (raised to 0 hs)) es
capped_raised to H hs m es r f i =
    all_map (λ e. (safe m H e.destination ≤ e.bound) × Capped hs e) (Capped (raised to 0 hs)) (λ e k. omega (arith, k.0, k.1, f e.destination, raised_le to hs e.destination)) es (all_both (λ (e : Edge). safe m H e.destination ≤ e.bound) (Capped hs) es (safe_bounds m es H r) i)

pub capped_bounds : (s : State) (H : ℕ) (hs : List ℕ) (es : List Edge) → All (Capped hs) es → All (Capped hs) (raised_edges s H es)
unfolding raised_edges
capped_bounds s H hs [] i = tt
capped_bounds s H hs (e ∷ es) i = (omega (arith, i.0), capped_bounds s H hs es i.1)

-- e: what was handed to d's process is below the bound of each edge into it.
abbrev pub Under : List Edge → Event → Type 0
Under es d = All (λ (e : Edge). e.destination ≡ d.destination → d.tick < e.bound) es

pub safe_under : (m : List ℕ) (es : List Edge) (H : ℕ) (d : Event) → RecordBelow m es → d.tick < safe m H d.destination → Under es d
safe_under m es H d r h =
    all_map (λ (e : Edge). safe m H e.destination ≤ e.bound) (λ (e : Edge). e.destination ≡ d.destination → d.tick < e.bound)
    (λ e k x. let z : safe m H e.destination ≡ safe m H d.destination = ap (safe m H) x in omega (arith, k)) es (safe_bounds m es H r)

pub under_raised : (s : State) (H : ℕ) (es : List Edge) (d : Event) → Under es d → Under (raised_edges s H es) d
unfolding raised_edges
under_raised s H [] d i = tt
under_raised s H (e ∷ es) d i = ((λ x. omega (arith, i.0 x)), under_raised s H es d i.1)

-- d: an event in hand is not below its process's local horizon, and is the last that its process was handed.
abbrev pub Le : Event → Event → Type 0
Le d e = d.destination ≡ e.destination → d.tick ≤ e.tick

abbrev pub Last : List Event → Event → Type 0
Last g b = All (λ d. Le d b) g

pub record InHand (hs : List ℕ) (g : List Event) (b : Event) : Type 0 where
  pub floor : get_or hs b.destination 0 ≤ b.tick
  pub last : Last g b

-- A new message of p, whose event has tick t: not below the destination's local horizon nor anything handed there; to another process,
-- above its own event and above all that was handed there. Check 33 is not used for it.
pub record Fine (hs : List ℕ) (g : List Event) (p t : ℕ) (m : Message) : Type 0 where
  pub floor : get_or hs m.destination 0 ≤ m.tick
  pub last : All (λ (d : Event). d.destination ≡ m.destination → d.tick ≤ m.tick) g
  pub later : (m.destination ≡ p → ⊥) → t < m.tick
  pub beyond : (m.destination ≡ p → ⊥) → All (λ (d : Event). d.destination ≡ m.destination → d.tick < m.tick) g
