-- What each return of the rows of one emission gives.
use mathlib.Core.Path.{◌≡◌, refl, sym, ap, ◌∙◌}
use mathlib.Core.Bool.{Bool, true, false, not, ◌||◌}
use mathlib.Core.List.{List, [], ◌∷◌}
use Rattle.std.specs.Prelude.{Option, Some, None, Ok, Err}
use Prim.Native.Nat.{ℕ, zero, suc, ◌+◌, ◌-◌, ◌*◌, ◌^◌, ◌≤◌, ◌<◌}
use native.Mathlib.Omega.{arith}
use lib.Dec.{leb, ltb, eqb}
use lib.ListN.{get_or}
use borrow.Author.Tests.{lt-ltb, le-ltb, le-leb, lt-leb}
use Rattle.types.specs.declared.SimTime.{SimTime}
use Rattle.types.specs.declared.SimDuration.{SimDuration}
use Rattle.types.specs.Value.{halves, ticks_of, duration_of, lp_id_of, IsSum}
use Rattle.types.proofs.Halves.{Whole, halves_fit}
use Rattle.words.specs.Words.{tab, tick_at, horizons_of}
use Rattle.rules.specs.Base.{if◌then◌otherwise◌, any}
use Rattle.rules.specs.Answers as A
use Rattle.rules.specs.State.{Edge}
use Rattle.rules.specs.Pending.{joins, route, lookahead_along}
use Rattle.rules.specs.Foreign.{without_lookahead}
use Rattle.rules.specs.HandBack.{minimum}
use Rattle.records.specs.Records.{edges_of}
use Rattle.rules.proofs.Tests.{or_left, or_right}
use Rattle.reply_words.specs.declared.Emission.{Emission}
use Rattle.reply_words.specs.Emissions.{emission_of}
use Rattle.state.specs.declared.Header.{Header}
use Rattle.state.specs.declared.Refusal.TheVariants as P
use Rattle.hand_back_emission.specs.Checks.{ChecksRows, tick_rows, rows_of, ChecksEmission}
use Rattle.hand_back_emission.proofs.Checks.{Verdict, nothing, struck, go_by}

-- The minimum.
module _ (e : Emission) (time : SimTime) (l : SimDuration) where
  abbrev least : ℕ
  least = minimum (duration_of l) (lp_id_of e.emitter) (ticks_of time) (emission_of e).message

  module _ (x : Bool) (same : x ≡ eqb (lp_id_of e.destination) (lp_id_of e.emitter)) where
    pub own_minimum : x ≡ true → Whole time.hi time.lo → IsSum least (Some time)
    unfolding minimum if◌then◌otherwise◌
    own_minimum o w = rw (sym same ∙ o) (halves_fit time.hi time.lo w, refl)

    pub far_minimum : x ≡ false → (r : Option SimTime) → IsSum (ticks_of time + duration_of l) r → IsSum least r
    unfolding minimum if◌then◌otherwise◌
    far_minimum n r a = rw (sym same ∙ n) a

-- A list by index at one of its places.
tab_at : (f : ℕ → ℕ) (i n d : ℕ) → d < n → get_or (tab f i n) d 0 ≡ f (i + d)
unfolding tab
tab_at f i zero d h = absurd (omega arith)
tab_at f i (suc n) zero h = let e : i + 0 ≡ i = omega arith in rw e
tab_at f i (suc n) (suc d) h = let e : suc i + d ≡ i + suc d = omega arith in tab_at f (suc i) n d (omega arith) ∙ rw e

local_at : (Z : List ℕ) (n d : ℕ) → d < n → get_or (horizons_of n Z) d 0 ≡ tick_at Z (2 * d)
local_at Z n d h = let e : 0 + d ≡ d = omega arith in rw e at (tab_at (λ (i : ℕ). tick_at Z (2 * i)) 0 n d h)

-- 32 and 33.
module _ (Z : List ℕ) (e : Emission) (time least : SimTime) (x : Bool) (early : x ≡ ltb (ticks_of e.tick) (ticks_of least)) where
  abbrev rows : Verdict → Type 0
  rows v = ChecksRows (tick_rows (emission_of e) (ticks_of time) (ticks_of least) (tick_at Z (2 * lp_id_of e.destination))) v

  pub violation : x ≡ true → rows (Err (P.OutboundLookaheadViolation e.emitter time e.tick least))
  unfolding tick_rows
  violation t = struck _ _ (P.OutboundLookaheadViolation e.emitter time e.tick least) (sym early ∙ t) refl

  module _ (t : x ≡ false) (d : ℕ) (same : d ≡ lp_id_of e.destination) (local : SimTime) (l : ticks_of local ≡ tick_at Z (2 * d)) (y : Bool) (late : y ≡ ltb (ticks_of e.tick) (ticks_of local)) where
    local_is : ticks_of local ≡ tick_at Z (2 * lp_id_of e.destination)
    local_is = l ∙ ap (λ (k : ℕ). tick_at Z (2 * k)) same

    late_as : (u : Bool) → y ≡ u → ltb (ticks_of e.tick) (tick_at Z (2 * lp_id_of e.destination)) ≡ u
    late_as u k = ap (ltb (ticks_of e.tick)) (sym local_is) ∙ sym late ∙ k

    pub straggler : y ≡ true → rows (Err (P.Straggler e.destination e.tick local))
    unfolding tick_rows
    straggler u = go_by _ _ _ (sym early ∙ t) (struck _ _ (P.Straggler e.destination e.tick local) (late_as true u) (ap (A.Straggler (lp_id_of e.destination) (ticks_of e.tick)) local_is))

    pub in_time : y ≡ false → rows (Ok tt)
    unfolding tick_rows
    in_time u = go_by _ _ _ (sym early ∙ t) (go_by _ _ _ (late_as false u) nothing)

-- 31 over any B: 2 ^ 128 has more digits than omega takes.
over : (B n : ℕ) → 0 < B → B ≤ n → ltb (B - 1) n ≡ true
over B n p h = lt-ltb (B - 1) n (omega arith)

fits : (B n : ℕ) → n < B → ltb (B - 1) n ≡ false
fits B n h = le-ltb (B - 1) n (omega arith)

positive : 0 < 2 ^ 128
unfolding halves
positive = halves_fit 0 0 (record { upper = omega arith; lower = omega arith })

-- An edge leads from a to b where the lookahead there is above 0.
edge_or_none : (es : List Edge) (a b : ℕ) → any without_lookahead es ≡ false → any (joins a b) es ≡ not (eqb (lookahead_along es a b) 0)
unfolding any lookahead_along if◌then◌otherwise◌
edge_or_none [] a b h = refl
edge_or_none (e ∷ es) a b h = go (joins a b e) (or_left (without_lookahead e) (any without_lookahead es) h) (edge_or_none es a b (or_right (without_lookahead e) (any without_lookahead es) h))
  where
    go : (t : Bool) → without_lookahead e ≡ false → any (joins a b) es ≡ not (eqb (lookahead_along es a b) 0) → (t || any (joins a b) es) ≡ not (eqb (if t then e.lookahead otherwise lookahead_along es a b) 0)
    go true f ih = sym (ap not f)
    go false f ih = ih

-- Whether a route is there, by the lookahead l.
module _ (e : Emission) (l : SimDuration) (x : Bool) (same : x ≡ eqb (lp_id_of e.emitter) (lp_id_of e.destination)) where
  abbrev routed : Bool
  routed = eqb (lp_id_of e.emitter) (lp_id_of e.destination) || not (eqb (duration_of l) 0)

  pub to_itself : x ≡ true → x ≡ routed
  to_itself t = t ∙ rw (sym same ∙ t)

  pub along_edge : x ≡ false → (z : Bool) → z ≡ eqb (duration_of l) 0 → not z ≡ routed
  along_edge t z s = rw (sym same ∙ t) (ap not s)

-- 28 to 33, each row with those before it passed.
module _ (h : Header) (l : SimDuration) (Z : List ℕ) (e : Emission) (time : SimTime) (x : Bool) (sx : x ≡ eqb (lp_id_of e.source) (lp_id_of e.emitter)) where
  abbrev Rows : Verdict → Type 0
  Rows v = ChecksEmission h (duration_of l) Z e time v

  pub mismatch : x ≡ false → Rows (Err (P.OutboundSourceMismatch e.emitter e.source))
  unfolding ChecksEmission rows_of
  mismatch n E Q B f w = struck _ _ (P.OutboundSourceMismatch e.emitter e.source) (ap not (sym sx ∙ n)) refl

  module _ (a : x ≡ true) (d : ℕ) (sd : d ≡ lp_id_of e.destination) where
    own : not (eqb (lp_id_of e.source) (lp_id_of e.emitter)) ≡ false
    own = ap not (sym sx ∙ a)

    pub unknown : h.n ≤ d → Rows (Err (P.UnknownOutboundDestination e.destination))
    unfolding ChecksEmission rows_of
    unknown m E Q B f w = go_by _ _ _ own (struck _ _ (P.UnknownOutboundDestination e.destination) (le-leb h.n (lp_id_of e.destination) (rw sd at m)) refl)

    module _ (m : d < h.n) (t : Bool) (et : t ≡ (eqb (lp_id_of e.emitter) (lp_id_of e.destination) || not (eqb (duration_of l) 0))) where
      below : lp_id_of e.destination < h.n
      below = rw sd at m

      known : leb h.n (lp_id_of e.destination) ≡ false
      known = lt-leb h.n (lp_id_of e.destination) below

      -- 30 of any edges with these lookaheads.
      missing : (E : List ℕ) → any without_lookahead (edges_of h.edges E) ≡ false → duration_of l ≡ lookahead_along (edges_of h.edges E) (lp_id_of e.emitter) (lp_id_of e.destination)
          → not (route (edges_of h.edges E) (lp_id_of e.emitter) (lp_id_of e.destination)) ≡ not t
      unfolding route
      missing E f w = rw (edge_or_none (edges_of h.edges E) (lp_id_of e.emitter) (lp_id_of e.destination) f, ← w) (ap not (sym et))

      pub unrouted : t ≡ false → Rows (Err (P.OutboundRouteMissing e.emitter e.destination))
      unfolding ChecksEmission rows_of
      unrouted u E Q B f w = go_by _ _ _ own (go_by _ _ _ known (struck _ _ (P.OutboundRouteMissing e.emitter e.destination) (missing E f w ∙ ap not u) refl))

      module _ (u : t ≡ true) (r : Option SimTime) (s : IsSum (least e time l) r) where
        pub overflow : r ≡ None → Rows (Err (P.LookaheadOverflow e.emitter time l))
        unfolding ChecksEmission rows_of
        overflow o E Q B f w =
            let k : 2 ^ 128 ≤ least e time l = rw o at s in
            rw (← w) (go_by _ _ _ own (go_by _ _ _ known (go_by _ _ _ (missing E f w ∙ ap not u) (struck _ _ (P.LookaheadOverflow e.emitter time l) (over (2 ^ 128) _ positive k) refl))))

        pub timed : (t : SimTime) → r ≡ Some t → (v : Verdict) → ChecksRows (tick_rows (emission_of e) (ticks_of time) (ticks_of t) (tick_at Z (2 * lp_id_of e.destination))) v → Rows v
        unfolding ChecksEmission rows_of tick_rows
        timed t o v j E Q B f w =
            let k : (least e time l < 2 ^ 128) × (ticks_of t ≡ least e time l) = rw o at s in
            let z : get_or (horizons_of h.n Z) (lp_id_of e.destination) 0 ≡ tick_at Z (2 * lp_id_of e.destination) = local_at Z h.n (lp_id_of e.destination) below in
            rw (← w) (go_by _ _ _ own (go_by _ _ _ known (go_by _ _ _ (missing E f w ∙ ap not u) (go_by _ _ _ (fits (2 ^ 128) _ k.0) (rw (z, ← k.1) j)))))
