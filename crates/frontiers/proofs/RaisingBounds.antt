-- Bounds are written, from the last edge to the first.
use mir.Val.{bool_byte}
use mathlib.Core.Path.{◌≡◌, refl, sym, ap, ◌∙◌}
use mathlib.Core.Bool.{Bool, true, false}
use mathlib.Core.List.{List, []}
use Prim.Native.Nat.{ℕ, zero, suc, ◌+◌, ◌-◌, ◌*◌, ◌≤◌, ◌<◌, max}
use native.Mathlib.Nat.{add_comm}
use native.Mathlib.Omega.{arith}
use lib.Dec.{ltb, eqb}
use lib.ListN.{length, get_or}
use borrow.Author.Tests.{lt-ltb, le-ltb, eqb-true}
use Rattle.types.specs.declared.SimDuration.{SimDuration}
use Rattle.types.specs.declared.SimTime.{SimTime}
use Rattle.types.specs.Value.{halves, ticks_of, duration_of}
use Rattle.words.specs.Words.{tab, tick_at, tick_of, inbounds_of, put_tick, RaisesTick}
use Rattle.words.proofs.Tab.{tab_cong, tab_step, tab_none, tab_whole, Pass, pass_start, pass_more, pass_end}
use Rattle.words.proofs.Ticks.{by_rise}
use Rattle.records.specs.Records.{edge_at, edges_of}
use Rattle.records.proofs.Stored.{bound_same, bound_other}
use Rattle.rules.specs.Base.{if◌then◌otherwise◌}
use Rattle.rules.specs.State.{Edge, with_bound, State}
use Rattle.rules.specs.Step.{input_frontier, new_bound, raised_edges, count_raised, new_edges, null_messages_of}
use Rattle.rules.specs.InPlace.{with_edges, raise_bounds}
use Rattle.rules.proofs.Tests.{by_test}
use Rattle.rules.proofs.InPlace.{raised_at_once}
use Rattle.inbound.specs.Inbound.{LowersInbound, RecordsInbound, Destinations}
use Rattle.inbound.proofs.Recording.{Recording, recording_start, recording_more, recording_end, safe_in}
use Rattle.frontiers.specs.Tables.{FirstTicks, capped}
use Rattle.frontiers.specs.declared.SourceBound.{SourceBound}
use Rattle.frontiers.specs.Rises.{BoundOf, FindsBound, raised_to, RaisedEdge, RaisesInPlace, RaisesBounds, Sources}
use Rattle.frontiers.specs.InputFrontiers.{ReadsFrontiers}

abbrev one_if : Bool → ℕ
one_if b = if b then 1 otherwise 0

one_true : (b : Bool) → b ≡ true → 1 ≡ one_if b
unfolding if◌then◌otherwise◌
one_true b e = rw e

one_false : (b : Bool) → b ≡ false → 0 ≡ one_if b
unfolding if◌then◌otherwise◌
one_false b e = rw e

-- An edge's source and bound where they stand.
edge_from : (w : List ℕ) (i : ℕ) → (edge_at w i).source ≡ get_or w (6 * i) 0
unfolding edge_at
edge_from w i = refl

edge_to_holds : (w : List ℕ) (i : ℕ) → (edge_at w i).destination ≡ get_or w (6 * i + 1) 0
unfolding edge_at
edge_to_holds w i = refl

edge_bound : (w : List ℕ) (i : ℕ) → (edge_at w i).bound ≡ tick_at w (6 * i + 4)
unfolding edge_at
edge_bound w i = refl

edge_lookahead : (w : List ℕ) (i : ℕ) → (edge_at w i).lookahead ≡ halves (get_or w (6 * i + 2) 0) (get_or w (6 * i + 3) 0)
unfolding edge_at tick_at
edge_lookahead w i = let e : 6 * i + 2 + 1 ≡ 6 * i + 3 = omega arith in rw e

-- What is found for an edge: its lookahead and its source are those of the last, or its bound is found anew.
module _ (i H : ℕ) (table w : List ℕ) (last : SourceBound) where
  pub found_before : get_or w (6 * i + 2) 0 ≡ last.lookahead.hi → eqb (get_or w (6 * i + 3) 0) last.lookahead.lo ≡ true → eqb (get_or w (6 * i) 0) last.source ≡ true → FindsBound i H table w last last
  found_before hi a b =
      let lo : get_or w (6 * i + 3) 0 ≡ last.lookahead.lo = eqb-true _ _ a in
      let from : (edge_at w i).source ≡ last.source = edge_from w i ∙ eqb-true _ _ b in
      let same : (edge_at w i).lookahead ≡ duration_of last.lookahead = edge_lookahead w i ∙ (λ j. halves (hi j) (lo j)) in
      record { source = sym from; lookahead = sym same; bound = λ known. known }

  pub found_anew : (front to : SimTime) (look : SimDuration) → ticks_of front ≡ tick_at table (2 * get_or w (6 * i) 0) → duration_of look ≡ tick_at w (6 * i + 2) → ticks_of to ≡ capped H (duration_of look) (ticks_of front)
      → FindsBound i H table w last (record { source = get_or w (6 * i) 0; lookahead = look; bound = to })
  unfolding BoundOf edge_at
  found_anew front to look ef el et = record { source = refl; lookahead = el; bound = λ _ _. et ∙ ap (capped H (duration_of look)) ef }

module _ (w : List ℕ) (i : ℕ) (to : SimTime) where
  edge_up : 6 * i + 6 ≤ length w → (edge_at w i).bound < ticks_of to → RaisedEdge i (ticks_of to) w (put_tick w (6 * i + 4) to) 1
  edge_up l h =
      let same : edge_at (put_tick w (6 * i + 4) to) i ≡ with_bound (edge_at w i) (ticks_of to) = bound_same w i to l in
      let goal : ticks_of to ≡ max (edge_at w i).bound (ticks_of to) = omega arith in
      record {
        here = same ∙ (λ j. with_bound (edge_at w i) (goal j));
        others = λ k ne. bound_other w i k to ne;
        counted = one_true _ (ap (λ (e : Edge). ltb (edge_at w i).bound e.bound) same ∙ lt-ltb (edge_at w i).bound (ticks_of to) h);
      }

  edge_kept : ticks_of to ≤ (edge_at w i).bound → RaisedEdge i (ticks_of to) w w 0
  edge_kept h =
      let goal : (edge_at w i).bound ≡ max (edge_at w i).bound (ticks_of to) = omega arith in
      record {
        here = λ j. with_bound (edge_at w i) (goal j);
        others = λ k ne. refl;
        counted = one_false _ (le-ltb (edge_at w i).bound (edge_at w i).bound (omega arith));
      }

  module _ (u : List ℕ) (r : Bool) (l : 6 * i + 6 ≤ length w) (s : RaisesTick w (6 * i + 4) to u r) where
    pub edge_rises : RaisedEdge i (ticks_of to) w u (bool_byte r)
    edge_rises = by_rise w (6 * i + 4) to u r s (λ v b. RaisedEdge i (ticks_of to) w v (bool_byte b)) (λ h. edge_up l (rw (edge_bound w i) h)) (λ h. edge_kept (rw (edge_bound w i) h))

one_most : (b : Bool) → one_if b ≤ 1
one_most b = by_test (λ (x : ℕ). x ≤ 1) (λ e. omega arith) (λ e. omega arith)

pub edge_most : (i t : ℕ) (w u : List ℕ) (r : ℕ) → RaisedEdge i t w u r → r ≤ 1
edge_most i t w u r l = rw l.counted (one_most _)

count_step : (f g : ℕ → Edge) (i m : ℕ) → 0 < i → i ≤ m → count_raised (tab f (i - 1) (m - (i - 1))) (tab g (i - 1) (m - (i - 1))) ≡ (if ltb (f (i - 1)).bound (g (i - 1)).bound then 1 otherwise 0) + count_raised (tab f i (m - i)) (tab g i (m - i))
unfolding count_raised
count_step f g i m h l = rw (tab_step f i m h l, tab_step g i m h l)

-- An edge with its bound raised by the input frontier that the table has of its source and its lookahead.
unfoldable pub raised_edge : ℕ → List ℕ → Edge → Edge
raised_edge H table e = raised_to (capped H e.lookahead (tick_of table e.source)) e

-- What the table says of an edge is what the rules say, where its input frontiers were read by the record and the first ticks of the state.
module _ (n : ℕ) (s : State) (H : ℕ) (first processes table : List ℕ) (kept : s.inbound ≡ inbounds_of n processes) (firsts : FirstTicks n s.pending H first) (front : ReadsFrontiers n H processes first table) where
  frontier_is : (p : ℕ) → p < n → tick_of table p ≡ input_frontier s H p
  unfolding ReadsFrontiers FirstTicks input_frontier
  frontier_is p h = front p h ∙ rw (firsts p h, kept, safe_in n H p processes h)

  bound_is : (e : Edge) → e.source < n → new_bound s H e ≡ capped H e.lookahead (tick_of table e.source)
  unfolding new_bound capped
  bound_is e h = rw (frontier_is e.source h)

  edges_tab : (f : ℕ → Edge) (i m : ℕ) → ((k : ℕ) → i ≤ k → k < i + m → (f k).source < n) → raised_edges s H (tab f i m) ≡ tab (λ k. raised_edge H table (f k)) i m
  unfolding raised_edges tab raised_edge
  edges_tab f i zero h = refl
  edges_tab f i (suc m) h = rw (bound_is (f i) (h i (omega arith) (omega arith)), edges_tab f (suc i) m (λ k x y. h k (omega arith) (omega arith)))

-- The bounds of the first m edges rise, from the last to the first: those from i on are raised.
module _ (m H : ℕ) (table w₀ : List ℕ) where
  abbrev pub lifted_at : ℕ → Edge → Edge
  lifted_at k e = raised_edge H table e

  pub record Lifting (i : ℕ) (w : List ℕ) (r : ℕ) : Type 0 where
    pub room : r + i ≤ m
    pub pass : Pass edge_at lifted_at m w₀ i w
    pub counted : r ≡ count_raised (tab (edge_at w₀) i (m - i)) (tab (edge_at w) i (m - i))

  pub lifting_start : Lifting m w₀ 0
  unfolding count_raised
  lifting_start = record {
    room = omega arith;
    pass = pass_start edge_at lifted_at m w₀;
    counted = rw (tab_none (edge_at w₀) m m (omega arith));
  }

  pub source_at : (n i : ℕ) (w : List ℕ) (r : ℕ) → n ≤ 64 → 0 < i → Lifting i w r → Sources n m w₀ → get_or w (6 * (i - 1)) 0 < 64
  unfolding Sources
  source_at n i w r few h f s =
      let e : (edge_at w (i - 1)).source ≡ (edge_at w₀ (i - 1)).source = ap (λ (x : Edge). x.source) (f.pass.ahead (i - 1) (omega arith)) in
      let k : (edge_at w₀ (i - 1)).source < n = s (i - 1) (omega (arith, f.room)) in
      rw (← edge_from w (i - 1), e) (omega arith)

  -- Edge i - 1 rises to what its source's input frontier makes of it.
  pub lifting_more : (i t : ℕ) (w u : List ℕ) (r q : ℕ) → 0 < i → Lifting i w r → t ≡ capped H (edge_at w (i - 1)).lookahead (tick_of table (edge_at w (i - 1)).source) → RaisedEdge (i - 1) t w u q → Lifting (i - 1) u (r + q)
  unfolding raised_edge
  lifting_more i t w u r q h f et l =
      let same : tab (edge_at u) i (m - i) ≡ tab (edge_at w) i (m - i) = tab_cong _ _ i (m - i) (λ k x y. l.others k (λ z. omega arith)) in
      let e : edge_at w (i - 1) ≡ edge_at w₀ (i - 1) = f.pass.ahead (i - 1) (omega arith) in
      record {
        room = omega (arith, f.room, edge_most (i - 1) t w u q l);
        pass = pass_more edge_at lifted_at m i w₀ w u h f.pass (l.here ∙ ap (λ (x : ℕ). raised_to x (edge_at w (i - 1))) et) l.others;
        counted = add_comm r q ∙ rw (f.counted, l.counted, e, ← same) (sym (count_step (edge_at w₀) (edge_at u) i m h (omega (arith, f.room))));
      }

  -- The edges have risen all at once: so they have one by one.
  module _ (n : ℕ) (first processes : List ℕ) (i : ℕ) (w : List ℕ) (r : ℕ) (z : i ≡ 0) (c : Sources n m w₀) (front : ReadsFrontiers n H processes first table) (f : Lifting i w r)
      (s : State) (own : s.edges ≡ edges_of m w₀) (kept : s.inbound ≡ inbounds_of n processes) (firsts : FirstTicks n s.pending H first) where
    edges_risen : new_edges s H ≡ edges_of m w
    unfolding Sources
    edges_risen = ap (raised_edges s H) own ∙ edges_tab n s H first processes table kept firsts front (edge_at w₀) 0 m (λ k x y. c k (omega arith)) ∙ sym (pass_end edge_at lifted_at m i w₀ w z f.pass)

    risen_counted : null_messages_of s H ≡ r
    risen_counted = (λ j. count_raised (own j) (edges_risen j)) ∙ sym (f.counted ∙ rw (tab_whole (edge_at w₀) i m z, tab_whole (edge_at w) i m z))

    risen : raise_bounds s H ≡ record { now = with_edges s (edges_of m w); raised = r }
    risen = raised_at_once s H ∙ (λ j. record { now = with_edges s (edges_risen j); raised = risen_counted j })

  pub lifting_end : (n : ℕ) (first processes : List ℕ) (i : ℕ) (w : List ℕ) (r : ℕ) → i ≤ 0 → Sources n m w₀ → ReadsFrontiers n H processes first table → Lifting i w r → RaisesInPlace m n H first processes w₀ w r
  unfolding RaisesInPlace
  lifting_end n first processes i w r o c front f = risen n first processes i w r (omega arith) c front f

-- Each edge goes on record when its bound is raised: the record is that of the raised edges. What was found for the last edge's source is known.
module _ (m n H : ℕ) (table w₀ p₀ : List ℕ) where
  pub record Raising (i : ℕ) (w p : List ℕ) (r : ℕ) (last : SourceBound) : Type 0 where
    pub lifting : Lifting m H table w₀ i w r
    pub recording : Recording w m n p₀ i p
    pub known : BoundOf H table last

  pub raising_start : (v : List ℕ) (l : SimDuration) (b : SimTime) → RecordsInbound n [] v p₀ → Raising m w₀ p₀ 0 (record { source = 64; lookahead = l; bound = b })
  unfolding BoundOf
  raising_start v l b q = record { lifting = lifting_start m H table w₀; recording = recording_start w₀ m n p₀ v q; known = λ l. absurd (omega arith) }

  pub source_of : (i : ℕ) (w p : List ℕ) (r : ℕ) (last : SourceBound) → n ≤ 64 → 0 < i → Raising i w p r last → Sources n m w₀ → get_or w (6 * (i - 1)) 0 < 64
  source_of i w p r last few h f s = source_at m H table w₀ n i w r few h f.lifting s

  -- Raising one edge leaves those behind it on record.
  still_recorded : (i t : ℕ) (w u p : List ℕ) (q : ℕ) → 0 < i → Recording w m n p₀ i p → RaisedEdge (i - 1) t w u q → Recording u m n p₀ i p
  still_recorded i t w u p q h r l =
      let same : tab (edge_at u) i (m - i) ≡ tab (edge_at w) i (m - i) = tab_cong _ _ i (m - i) (λ k x y. l.others k (λ z. omega arith)) in
      record { within = r.within; records = rw same r.records }

  -- What is found for edge i - 1.
  module _ (i : ℕ) (w p : List ℕ) (r : ℕ) (last b : SourceBound) (few : n ≤ 64) (c : Sources n m w₀) (h : 0 < i) (f : Raising i w p r last) (found : FindsBound (i - 1) H table w last b) where
    bound_found : ticks_of b.bound ≡ capped H (edge_at w (i - 1)).lookahead (tick_of table (edge_at w (i - 1)).source)
    unfolding BoundOf
    bound_found =
        let k : b.source < 64 = rw (found.source ∙ edge_from w (i - 1)) (source_of i w p r last few h f c) in
        found.bound f.known k ∙ (λ j. capped H (found.lookahead j) (tick_of table (found.source j)))

    pub raising_more : (u v : List ℕ) (q : ℕ) → RaisedEdge (i - 1) (ticks_of b.bound) w u q → LowersInbound (edge_at u (i - 1)) p v → Raising (i - 1) u v (r + q) b
    raising_more u v q l s = record {
      lifting = lifting_more m H table w₀ i (ticks_of b.bound) w u r q h f.lifting bound_found l;
      recording = recording_more u m n p₀ i p v h (still_recorded i (ticks_of b.bound) w u p q h f.recording l) s;
      known = found.bound f.known;
    }

  pub raising_end : (first v : List ℕ) (i : ℕ) (w p : List ℕ) (r : ℕ) (last : SourceBound) → i ≤ 0 → Sources n m w₀ → ReadsFrontiers n H v first table → RecordsInbound n [] v p₀ → Raising i w p r last → RaisesBounds m n H first w₀ v w p r
  raising_end first v i w p r last o c front q f = record { in_place = lifting_end m H table w₀ n first v i w r o c front f.lifting; recorded = recording_end w m n p₀ v i p o q f.recording }

  -- The edge that was just raised leads where it led.
  pub destination_of : (i t : ℕ) (w u p : List ℕ) (r q : ℕ) (last : SourceBound) → 0 < i → Raising i w p r last → RaisedEdge (i - 1) t w u q → Destinations 64 m w₀ → get_or u (6 * (i - 1) + 1) 0 < 64
  unfolding Destinations
  destination_of i t w u p r q last h f l d =
      let a : (edge_at u (i - 1)).destination ≡ (edge_at w (i - 1)).destination = ap (λ (x : Edge). x.destination) l.here in
      let b : (edge_at w (i - 1)).destination ≡ (edge_at w₀ (i - 1)).destination = ap (λ (x : Edge). x.destination) (f.lifting.pass.ahead (i - 1) (omega arith)) in
      rw (← edge_to_holds u (i - 1), a, b) (d (i - 1) (omega (arith, f.lifting.room)))
