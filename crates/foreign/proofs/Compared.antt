-- The record that the edges make, held against the state's.
use mathlib.Core.Path.{◌≡◌, refl, sym, ap, ◌∙◌}
use mathlib.Core.Bool.{Bool, true, false, not, ◌||◌}
use mathlib.Core.List.{List, ◌∷◌}
use Prim.Native.Nat.{ℕ, zero, suc, ◌+◌, ◌≤◌, ◌<◌}
use native.Mathlib.Omega.{arith}
use lib.Dec.{eqb}
use Rattle.types.specs.declared.SimTime.{SimTime}
use Rattle.types.specs.Value.{ticks_of}
use Rattle.words.specs.Words.{tab, inbound_at, inbounds_of}
use Rattle.records.proofs.Passes.{Seeking, answer_found, seeking_end}
use Rattle.rules.specs.Base.{up_from, up_to, any, any_of}
use Rattle.rules.specs.State.{Edge}
use Rattle.rules.specs.Frontiers.{least_inbound, recorded}
use Rattle.rules.specs.Foreign.{unknown_id_edge, duplicate_or_self_edges, without_lookahead}
use Rattle.rules.proofs.Tests.{or_left, or_right, or_cases}
use Rattle.inbound.specs.Inbound.{RecordsInbound}
use Rattle.inbound.proofs.Recording.{recorded_in}
use Rattle.edges.specs.Invalid.{InvalidEdges}
use Rattle.foreign.specs.Tests.{wrong_in, edge_tests, differs_at}
use Rattle.foreign.proofs.Chain.{stops, later, goes_on, ends}

-- One process.
pub ticks_differ : (w u : List ℕ) (p : ℕ) (s t : SimTime) (b : Bool) → ticks_of s ≡ inbound_at w p → ticks_of t ≡ inbound_at u p → b ≡ eqb (ticks_of s) (ticks_of t) → not b ≡ differs_at w u p
ticks_differ w u p s t b d e f = rw (← d, ← e, f)

-- The processes in turn.
abbrev pub each : ℕ → ℕ
each p = p

numbers : (i n : ℕ) → tab each i n ≡ up_from i n
unfolding tab up_from
numbers i zero = refl
numbers i (suc n) = ap (λ (l : List ℕ). i ∷ l) (numbers (suc i) n)

module _ (test : ℕ → Bool) (n p : ℕ) where
  found : true ≡ any test (tab each 0 n) → true ≡ any test (up_to n)
  unfolding up_to
  found e = e ∙ ap (any test) (numbers 0 n)

  pub tick_wrong : p < n → Seeking test each n p → (b : Bool) → b ≡ test p → b ≡ true → true ≡ any test (up_to n)
  tick_wrong h s b q t = found (answer_found test each n p h s b q t)

  pub ticks_right : n ≤ p → Seeking test each n p → false ≡ any test (up_to n)
  unfolding up_to
  ticks_right h s = seeking_end test each n p h s ∙ ap (any test) (numbers 0 n)

-- Tests that agree on the numbers.
any_same : (f g : ℕ → Bool) (i n : ℕ) → ((p : ℕ) → i ≤ p → p < i + n → f p ≡ g p) → any f (up_from i n) ≡ any g (up_from i n)
unfolding any up_from
any_same f g i zero h = refl
any_same f g i (suc n) h = rw (h i (omega arith) (omega arith), any_same f g (suc i) n (λ p a b. h p (omega arith) (omega arith)))

-- With the record u of the edges es.
module _ (n : ℕ) (es : List Edge) (v u w : List ℕ) where
  compared : RecordsInbound n es v u → any (differs_at w u) (up_to n) ≡ wrong_in n es (inbounds_of n w)
  unfolding up_to
  compared r = any_same (differs_at w u) (λ p. not (eqb (recorded (inbounds_of n w) p) (least_inbound es p))) 0 n
      (λ p a b. let h : p < n = omega arith in rw (recorded_in n p w h, r.inbound p h))

  abbrev unknown : Bool
  unknown = any (unknown_id_edge n) es

  abbrev without : Bool
  without = any without_lookahead es

  abbrev bad : Bool
  bad = duplicate_or_self_edges es

  module _ (b : Bool) (i : InvalidEdges n es v u b) where
    pub edge_invalid : b ≡ true → true ≡ any_of (edge_tests n es (inbounds_of n w))
    edge_invalid t =
        or_cases (unknown || without) bad (sym i.answer ∙ t)
        (λ x. or_cases unknown without x (λ y. stops unknown _ y) (λ y. later unknown _ (stops without _ y)))
        (λ x. later unknown _ (later without _ (stops bad _ x)))

    pub edges_valid : b ≡ false → (r : Bool) → r ≡ any (differs_at w u) (up_to n) → r ≡ any_of (edge_tests n es (inbounds_of n w))
    edges_valid f r q =
        let none : unknown || without || bad ≡ false = sym i.answer ∙ f in
        let ends-known : unknown || without ≡ false = or_left (unknown || without) bad none in
        goes_on unknown r _ (or_left unknown without ends-known)
        (goes_on without r _ (or_right unknown without ends-known)
        (goes_on bad r _ (or_right (unknown || without) bad none) (ends _ r (q ∙ compared (i.records f)))))
