-- The edges passed, from the last to the first: none invalid so far, and each in the table.
use mathlib.Core.Path.{◌≡◌, sym, ap, ◌∙◌}
use mathlib.Core.Bool.{Bool, true, false, ◌||◌, or-true, or-false, true≢false}
use mathlib.Core.List.{List, [], ◌∷◌, ◌++◌}
use Prim.Native.Nat.{ℕ, ◌+◌, ◌-◌, ◌*◌, ◌≤◌, ◌<◌}
use native.Mathlib.Omega.{arith}
use native.Mathlib.Nat.{zero-add}
use lib.Dec.{eqb, leb}
use lib.ListN.{get_or}
use borrow.Author.Tests.{leb-false, lt-leb}
use Rattle.words.specs.Words.{tab, zeroes}
use Rattle.words.proofs.Tab.{tab_split, tab_step, tab_none, tab_whole}
use Rattle.records.specs.Records.{edge_at, edges_of}
use Rattle.rules.specs.Base.{any}
use Rattle.rules.specs.State.{Edge}
use Rattle.rules.specs.Pending.{joins, route}
use Rattle.rules.specs.Foreign.{unknown_id_edge, duplicate_or_self_edges, without_lookahead}
use Rattle.rules.proofs.Tests.{or_left, or_right, or_both, or_cases}
use Rattle.inbound.specs.Inbound.{RecordsInbound}
use Rattle.inbound.proofs.Recording.{Recording, recording_end}
use Rattle.edges.specs.Routes.{HasRoute, SeenOrMarked}
use Rattle.edges.specs.Invalid.{InvalidEdge, InvalidEdges}
use Rattle.edges.proofs.Marks.{no_routes, destination_below, Routing, routing_start, routing_more}

-- Ends below n are below 64.
module _ (n : ℕ) (h : n ≤ 64) where
  low : (x : ℕ) → leb n x ≡ false → leb 64 x ≡ false
  low x f = lt-leb 64 x (omega (arith, leb-false n x f))

  pub both_low : (e : Edge) → unknown_id_edge n e ≡ false → unknown_id_edge 64 e ≡ false
  both_low e f =
      let a = leb n e.source in
      let b = leb n e.destination in
      or_both (leb 64 e.source) (leb 64 e.destination) (low e.source (or_left a b f)) (low e.destination (or_right a b f))

  -- b is the answer for the edge e.
  pub answer_low : (e : Edge) (b : Bool) → b ≡ unknown_id_edge n e → b ≡ false → unknown_id_edge 64 e ≡ false
  answer_low e b q f = both_low e (sym q ∙ f)

-- Edge e is met with the edges of w seen: b is whether an end is unknown, c whether it has no lookahead.
module _ (n : ℕ) (e : Edge) (w : List ℕ) (b : Bool) (q : b ≡ unknown_id_edge n e) where
  pub met_unknown : b ≡ true → InvalidEdge n e w w true
  met_unknown t = record { answer = λ es r. rw (← q, t); marked = λ x. absurd (true≢false x) }

  module _ (t : b ≡ false) (c : Bool) (l : c ≡ without_lookahead e) where
    pub met_without : c ≡ true → InvalidEdge n e w w true
    met_without o = record { answer = λ es r. rw (← q, t, ← l, o); marked = λ x. absurd (true≢false x) }

    pub met_known : c ≡ false → (u : List ℕ) (r : Bool) → SeenOrMarked e w u r → InvalidEdge n e w u r
    unfolding HasRoute
    met_known o u r m = record { answer = λ es s. rw (← q, t, ← l, o) (m.bad es s); marked = m.marked }

-- What 11 says of edges.
abbrev pub invalid : ℕ → List Edge → Bool
invalid n es = any (unknown_id_edge n) es || any without_lookahead es || duplicate_or_self_edges es

-- An invalid edge behind others.
any_behind : (f : Edge → Bool) (xs ys : List Edge) → any f ys ≡ true → any f (xs ++ ys) ≡ true
unfolding any
any_behind f [] ys h = h
any_behind f (x ∷ xs) ys h = rw (any_behind f xs ys h) (or-true (f x))

bad_behind : (xs ys : List Edge) → duplicate_or_self_edges ys ≡ true → duplicate_or_self_edges (xs ++ ys) ≡ true
unfolding duplicate_or_self_edges
bad_behind [] ys h = h
bad_behind (x ∷ xs) ys h = rw (bad_behind xs ys h) (or-true (eqb x.source x.destination || any (joins x.source x.destination) (xs ++ ys)))

invalid_behind : (n : ℕ) (xs ys : List Edge) → invalid n ys ≡ true → invalid n (xs ++ ys) ≡ true
invalid_behind n xs ys h =
    let unknown = any (unknown_id_edge n) (xs ++ ys) in
    or_cases (any (unknown_id_edge n) ys || any without_lookahead ys) (duplicate_or_self_edges ys) h
    (λ a. or_cases (any (unknown_id_edge n) ys) (any without_lookahead ys) a
    (λ b. rw (any_behind (unknown_id_edge n) xs ys b))
    (λ b. rw (any_behind without_lookahead xs ys b, or-true unknown)))
    (λ a. rw (bad_behind xs ys a) (or-true (unknown || any without_lookahead (xs ++ ys))))

-- One more in front of valid edges.
invalid_more : (n : ℕ) (e : Edge) (es : List Edge) → invalid n es ≡ false → invalid n (e ∷ es) ≡ unknown_id_edge n e || without_lookahead e || route es e.source e.destination
unfolding any duplicate_or_self_edges route
invalid_more n e es h =
    let a = any (unknown_id_edge n) es in
    let b = any without_lookahead es in
    let ab : a || b ≡ false = or_left (a || b) (duplicate_or_self_edges es) h in
    rw (or_left a b ab, or_right a b ab, or_right (a || b) (duplicate_or_self_edges es) h, or-false (unknown_id_edge n e), or-false (without_lookahead e), or-false (eqb e.source e.destination || any (joins e.source e.destination) es))

-- The edges from i on are passed: none of them is invalid, and they are in the table.
pub record Passing (edges : List ℕ) (m n i : ℕ) (w : List ℕ) : Type 0 where
  pub routing : Routing edges m i w
  pub valid : invalid n (tab (edge_at edges) i (m - i)) ≡ false

pub passing_start : (edges : List ℕ) (m n : ℕ) → Passing edges m n m (zeroes 64)
unfolding any duplicate_or_self_edges
passing_start edges m n = record { routing = routing_start edges m (zeroes 64) no_routes; valid = rw (tab_none (edge_at edges) m m (omega arith)) }

module _ (edges : List ℕ) (m n : ℕ) where
  -- One turn: edge i - 1 is met.
  module _ (i : ℕ) (w u : List ℕ) (r : Bool) (h : 0 < i) (p : Passing edges m n i w) (o : InvalidEdge n (edge_at edges (i - 1)) w u r) where
    told : invalid n (tab (edge_at edges) (i - 1) (m - (i - 1))) ≡ r
    told = rw (tab_step (edge_at edges) i m h p.routing.within) (invalid_more n (edge_at edges (i - 1)) _ p.valid ∙ sym (o.answer _ p.routing.routes))

    pub passing_more : r ≡ false → Passing edges m n (i - 1) u
    passing_more e = record { routing = routing_more edges m i w p.routing h u (o.marked e); valid = told ∙ e }

    -- Its destination has a place in the record.
    pub destination_known : r ≡ false → n ≤ 64 → get_or edges (6 * (i - 1) + 1) 0 < 64
    destination_known e l =
        destination_below edges (i - 1)
        (both_low n l (edge_at edges (i - 1)) (or_left (unknown_id_edge n (edge_at edges (i - 1))) _ (or_left (unknown_id_edge n (edge_at edges (i - 1)) || without_lookahead (edge_at edges (i - 1))) _ (sym (o.answer _ p.routing.routes) ∙ e))))

    pub passing_stop : r ≡ true → (v x : List ℕ) → InvalidEdges n (edges_of m edges) v x true
    passing_stop e v x =
        let s : i - 1 + (m - (i - 1)) ≡ m = omega (arith, p.routing.within) in
        let t = rw (s, zero-add) at (tab_split (edge_at edges) 0 (i - 1) (m - (i - 1))) in
        record {
          answer = sym (ap (invalid n) t ∙ invalid_behind n (tab (edge_at edges) 0 (i - 1)) _ (told ∙ e));
          records = λ f. absurd (true≢false f);
        }

  -- All are passed, and all are on record.
  pub passing_end : (i : ℕ) (w v x y : List ℕ) → i ≤ 0 → Passing edges m n i w → RecordsInbound n [] v x → Recording edges m n x i y → InvalidEdges n (edges_of m edges) v y false
  passing_end i w v x y h p q r =
      let z : i ≡ 0 = omega arith in
      record {
        answer = sym (rw (tab_whole (edge_at edges) i m z) at p.valid);
        records = λ f. recording_end edges m n x v i y h q r;
      }
