-- For callers: the room that the edges of a file take, and their lookaheads as build takes them.
use mathlib.Core.Path.{◌≡◌, refl, sym, ap, ◌∙◌}
use mathlib.Core.Bool.{Bool}
use mathlib.Core.List.{List, [], ◌∷◌, ◌++◌}
use Prim.Native.Nat.{ℕ, suc, ◌+◌, ◌*◌, ◌≤◌}
use native.Mathlib.Omega.{arith}
use lib.ListN.{length, take, drop, length-append, length-drop}
use lib.Seq.{get_or-take}
use Rattle.bits.specs.Bytes.{stream}
use Rattle.bits.proofs.Fields.{length_bits}
use Rattle.bits.proofs.Streams.{length_stream}
use Rattle.types.specs.Value.{halves}
use Rattle.words.specs.Words.{tab, tick_at, tick_of, ticks_in}
use Rattle.words.proofs.Tab.{tab_cong, tab_shift}
use Rattle.words.proofs.Ticks.{tick_cong}
use Rattle.build_topology.specs.Lookaheads.{lookaheads_for}
use Rattle.plan_file.specs.Plan.{PlanEdge, Plan}
use Rattle.plan_file.specs.Format.{Got.got, field, pair, seen, puts, gets, ReadsAll, gets_back}
use Rattle.plan_file.specs.Grammar.{edge}
use Rattle.plan_file.specs.Standing.{Standing}

length_edge : (e : PlanEdge) → length (edge.put e) ≡ 140
unfolding edge seen pair field
length_edge e = simp (length-append, length_bits)

length_edges : (es : List PlanEdge) → length (puts edge es) ≡ length es * 140
unfolding puts
length_edges [] = refl
length_edges (e ∷ es) = omega (arith, length-append (edge.put e) (puts edge es), length_edge e, length_edges es)

-- What was read was there.
edges_room : (k : ℕ) (b behind : List Bool) (es : List PlanEdge) → gets edge k b ≡ got es behind → 140 * k ≤ length b
edges_room k b behind es e =
    let r : ReadsAll edge k b (got es behind) = rw e at (gets_back edge k b) in
    let l : length (puts edge es ++ behind) ≡ length b = ap length r.0 in
    omega (arith, r.1.0, l, length-append (puts edge es) behind, length_edges es)

-- The file's edges are the plan's: k of them, as check_file found them (plan_file).
module _ (p : Plan) (s : List ℕ) (k : ℕ) (n : k ≡ length p.edges) (e : Standing edge (stream s) 337 p.edges) where
  there : gets edge k (drop 337 (stream s)) ≡ got p.edges e.behind
  there = rw n e.reads

  -- What read_edges asks of the file.
  pub file_room : 337 + 140 * k ≤ length s * 8
  file_room = omega (arith, e.inside, edges_room k (drop 337 (stream s)) e.behind p.edges there, length-drop 337 (stream s), length_stream s)

-- The words of the lookaheads, as many as build asks for.
pub lookaheads_taken : (ds ws : List ℕ) → length ws ≡ 2 * length ds → lookaheads_for ds ws ≡ ticks_in (length ds) ws
unfolding lookaheads_for tab tick_at
lookaheads_taken [] [] h = refl
lookaheads_taken [] (w ∷ ws) h = absurd (omega arith)
lookaheads_taken (d ∷ ds) [] h = absurd (omega arith)
lookaheads_taken (d ∷ ds) (x ∷ []) h = absurd (omega arith)
lookaheads_taken (d ∷ ds) (x ∷ y ∷ ws) h =
    ap (λ (l : List ℕ). halves x y ∷ l)
    (lookaheads_taken ds ws (omega arith) ∙ sym (tab_shift (tick_of (x ∷ y ∷ ws)) (tick_of ws) 0 (length ds) (λ k a b. two_on k)))
  where
    two_on : (k : ℕ) → tick_of (x ∷ y ∷ ws) (suc k) ≡ tick_of ws k
    two_on k =
        let e : 2 * suc k ≡ suc (suc (2 * k)) = omega arith in
        let f : 2 * suc k + 1 ≡ suc (suc (2 * k + 1)) = omega arith in
        rw (f, e)

-- Words behind those of the first k do not count.
pub first_ticks : (k : ℕ) (w : List ℕ) → ticks_in k (take (2 * k) w) ≡ ticks_in k w
first_ticks k w = tab_cong (tick_of (take (2 * k) w)) (tick_of w) 0 k (λ j a b. tick_cong (take (2 * k) w) w (2 * j) (2 * j) (get_or-take (2 * k) w (2 * j) 0 (omega arith)) (get_or-take (2 * k) w (2 * j + 1) 0 (omega arith)))
