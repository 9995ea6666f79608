-- Routes as bits: the table of no edges, one edge more, and the answer read off it.
use mathlib.Core.Path.{◌≡◌, refl, sym, ap, subst, ◌∙◌}
use mathlib.Core.Bool.{Bool, true, false, ◌&&◌, ◌||◌, true≢false, or_comm}
use mathlib.Core.List.{List, []}
use Prim.Native.Nat.{ℕ, zero, suc, ◌+◌, ◌-◌, ◌*◌, ◌/◌, ◌%◌, ◌^◌, ◌≤◌, ◌<◌}
use native.Mathlib.Omega.{arith}
use native.Mathlib.Nat.{one-mul, mod-eq_of_lt}
use lib.Bits.{bit_or}
use lib.Dec.{eqb, leb}
use lib.ListN.{length, get_or, set}
use lib.Pow.{pow-lt}
use lib.Seq.{get_or-set_same, get_or-set_other}
use borrow.Author.Tests.{eq-eqb, eqb-true, eqb-false, leb-false}
use Rattle.words.specs.Words.{tab, zeroes}
use Rattle.words.proofs.Tab.{tab_step, tab_none}
use Rattle.records.specs.Records.{edge_at, edges_of}
use Rattle.records.proofs.Placing.{all_at}
use Rattle.rules.specs.Base.{any}
use Rattle.rules.specs.State.{Edge}
use Rattle.rules.specs.Foreign.{unknown_id_edge}
use Rattle.rules.proofs.Lists.{any_none}
use Rattle.rules.proofs.Tests.{by_bool, or_left, or_right}
use Rattle.edges.specs.Routes.{bit, seen_in, Routes, HasRoute, Marked, SeenOrMarked}
use Rattle.edges.proofs.Bits.{bit_none, bit_power, bit_or_holds}
use Rattle.edges.proofs.Tested.{route_self, route_along}

-- Both ends of an edge whose ids are known.
module _ (w : List ℕ) (i : ℕ) (h : unknown_id_edge 64 (edge_at w i) ≡ false) where
  pub source_below : get_or w (6 * i) 0 < 64
  unfolding edge_at
  source_below = leb-false 64 (get_or w (6 * i) 0) (or_left (leb 64 (get_or w (6 * i) 0)) (leb 64 (get_or w (6 * i + 1) 0)) h)

  pub destination_below : get_or w (6 * i + 1) 0 < 64
  unfolding edge_at
  destination_below = leb-false 64 (get_or w (6 * i + 1) 0) (or_right (leb 64 (get_or w (6 * i) 0)) (leb 64 (get_or w (6 * i + 1) 0)) h)

-- No edges.
noughts : (k x : ℕ) → get_or (zeroes k) x 0 ≡ 0
noughts zero x = refl
noughts (suc k) zero = refl
noughts (suc k) (suc x) = noughts k x

pub no_routes : Routes [] (zeroes 64)
unfolding Routes any
no_routes a b = ap (λ (x : ℕ). bit x b) (noughts 64 a) ∙ bit_none b

-- Bit t of word f is set.
with_bit : (w : List ℕ) (f t s d : ℕ) → f < length w → seen_in (set w f (bit_or (get_or w f 0) (2 ^ t))) s d ≡ eqb f s && eqb t d || seen_in w s d
with_bit w f t s d h =
    by_bool (eqb f s)
    (λ e. let x : f ≡ s = eqb-true f s e in rw (e, ← x, get_or-set_same w f (bit_or (get_or w f 0) (2 ^ t)) 0 h, bit_or_holds d (get_or w f 0) (2 ^ t), bit_power t d) (or_comm (seen_in w f d) (eqb t d)))
    (λ e. rw (e, get_or-set_other w f s (bit_or (get_or w f 0) (2 ^ t)) 0 (λ x. eqb-false f s e (sym x))))

-- Edge i more.
module _ (edges w : List ℕ) (i : ℕ) where
  abbrev from : ℕ
  from = get_or edges (6 * i) 0

  abbrev to : ℕ
  to = get_or edges (6 * i + 1) 0

  pub marking : length w ≡ 64 → unknown_id_edge 64 (edge_at edges i) ≡ false → Marked (edge_at edges i) w (set w from (bit_or (get_or w from 0) (1 * 2 ^ to % 2 ^ 64)))
  unfolding Marked Routes edge_at any
  marking l h es r s d =
      let b : 2 ^ to < 2 ^ 64 = pow-lt (destination_below edges i h) in
      let x : 1 * 2 ^ to % 2 ^ 64 ≡ 2 ^ to = rw one-mul (mod-eq_of_lt b) in
      rw x (with_bit w from to s d (omega (arith, source_below edges i h)) ∙ rw (r s d))

  -- It is met with the edges of w seen.
  module _ (r : Bool) (l : HasRoute w from to r) where
    pub meet_bad : r ≡ true → SeenOrMarked (edge_at edges i) w w true
    unfolding edge_at
    meet_bad t = record { bad = subst (HasRoute w from to) t l; marked = λ x. absurd (true≢false x) }

    pub meet_new : r ≡ false → (u : List ℕ) → Marked (edge_at edges i) w u → SeenOrMarked (edge_at edges i) w u false
    unfolding edge_at
    meet_new t u m = record { bad = subst (HasRoute w from to) t l; marked = λ _. m }

-- The answer read off a table.
module _ (w : List ℕ) (a b : ℕ) where
  pub leads_self : a ≡ b → HasRoute w a b (eqb a b)
  unfolding HasRoute
  leads_self e es r = eq-eqb a b e ∙ route_self es a b e

  pub leads_along : (a ≡ b → ⊥) → HasRoute w a b (eqb (get_or w a 0 / 2 ^ b % 2) 1)
  unfolding HasRoute Routes bit
  leads_along n es r = route_along es a b _ n (r a b)

-- A pass over the edges from the last to the first: those from i on are in the table.
pub record Routing (edges : List ℕ) (n i : ℕ) (w : List ℕ) : Type 0 where
  pub within : i ≤ n
  pub routes : Routes (tab (edge_at edges) i (n - i)) w

module _ (edges : List ℕ) (n : ℕ) where
  pub routing_start : (w : List ℕ) → Routes [] w → Routing edges n n w
  routing_start w r = record { within = omega arith; routes = rw (tab_none (edge_at edges) n n (omega arith)) r }

  pub routing_more : (i : ℕ) (w : List ℕ) → Routing edges n i w → 0 < i → (u : List ℕ) → Marked (edge_at edges (i - 1)) w u → Routing edges n (i - 1) u
  unfolding Marked
  routing_more i w p h u m = record { within = omega (arith, p.within); routes = rw (tab_step (edge_at edges) i n h p.within) (m _ p.routes) }

-- Where no edge has an unknown end, the one that a pass comes to has none.
pub not_unknown : (edges : List ℕ) (n i : ℕ) → 0 < i → i ≤ n → any (unknown_id_edge 64) (edges_of n edges) ≡ false → unknown_id_edge 64 (edge_at edges (i - 1)) ≡ false
not_unknown edges n i h l e = all_at (λ (x : Edge). unknown_id_edge 64 x ≡ false) (edge_at edges) 0 n (i - 1) (any_none (unknown_id_edge 64) (edges_of n edges) e) (omega arith) (omega arith)
