-- Records and edges in flat words: equal words say equal records, and what a store leaves of the others.
use mathlib.Core.Path.{◌≡◌, refl, sym, ap, ◌∙◌}
use mathlib.Core.Logic.{◌≢◌, ⊎_elim}
use mathlib.Core.List.{List, ◌++◌, append_assoc}
use Prim.Native.Nat.{ℕ, suc, ◌+◌, ◌-◌, ◌*◌, ◌≤◌, ◌<◌}
use native.Mathlib.Omega.{arith}
use native.Mathlib.Nat.{add-zero}
use lib.ListN.{length, get_or, set, take, drop, get_or-append}
use lib.Seq.{get_or-take, get_or-drop, get_or-append-add, length-take-le, sets-eq, set-get_or}
use Rattle.types.specs.declared.SimTime.{SimTime}
use Rattle.types.specs.Value.{ticks_of}
use Rattle.types.proofs.Halves.{lt_or_ge}
use Rattle.words.specs.Words.{tick_at, put_tick, cleared}
use Rattle.words.proofs.Tab.{tab_cong, length_tab}
use Rattle.words.proofs.Ticks.{tick_cong, tick_same, tick_other, word_other}
use Rattle.words.proofs.Places.{clear_front}
use Rattle.rules.specs.State.{with_bound}
use Rattle.records.specs.declared.Record.{Record}
use Rattle.records.specs.Records.{payload_of, event_of, record_in, words_of, put_record, event_at, events_of, edge_at, edges_of}

pub length_payload : (len upper lower : ℕ) → length (payload_of len upper lower) ≡ len
unfolding payload_of
length_payload len upper lower = length_tab _ 0 len

-- Equal words are equal records.
pub record_cong : (u w : List ℕ) (a b : ℕ) → ((k : ℕ) → k < 8 → get_or u (a + k) 0 ≡ get_or w (b + k) 0) → record_in u a ≡ record_in w b
unfolding record_in
record_cong u w a b h =
    let d : get_or u a 0 ≡ get_or w b 0 = simp add-zero at (h 0 (omega arith)) in
    λ i. record {
      destination = d i;
      hi = h 1 (omega arith) i;
      lo = h 2 (omega arith) i;
      source = h 3 (omega arith) i;
      sequence = h 4 (omega arith) i;
      len = h 5 (omega arith) i;
      payload_hi = h 6 (omega arith) i;
      payload_lo = h 7 (omega arith) i;
    }

pub event_cong : (u w : List ℕ) (i j : ℕ) → ((k : ℕ) → k < 8 → get_or u (8 * i + k) 0 ≡ get_or w (8 * j + k) 0) → event_at u i ≡ event_at w j
unfolding event_at
event_cong u w i j h = ap event_of (record_cong u w (8 * i) (8 * j) h)

pub events_cong : (n : ℕ) (u w : List ℕ) → ((k : ℕ) → k < 8 * n → get_or u k 0 ≡ get_or w k 0) → events_of n u ≡ events_of n w
events_cong n u w h = tab_cong _ _ 0 n (λ i a b. event_cong u w i i (λ k c. h (8 * i + k) (omega arith)))

pub edge_cong : (u w : List ℕ) (i j : ℕ) → ((k : ℕ) → k < 6 → get_or u (6 * i + k) 0 ≡ get_or w (6 * j + k) 0) → edge_at u i ≡ edge_at w j
unfolding edge_at
edge_cong u w i j h =
    let s : get_or u (6 * i) 0 ≡ get_or w (6 * j) 0 = simp add-zero at (h 0 (omega arith)) in
    let a : 6 * i + 2 + 1 ≡ 6 * i + 3 = omega arith in
    let b : 6 * j + 2 + 1 ≡ 6 * j + 3 = omega arith in
    let l : tick_at u (6 * i + 2) ≡ tick_at w (6 * j + 2) = tick_cong u w (6 * i + 2) (6 * j + 2) (h 2 (omega arith)) (rw (a, b) (h 3 (omega arith))) in
    let c : 6 * i + 4 + 1 ≡ 6 * i + 5 = omega arith in
    let d : 6 * j + 4 + 1 ≡ 6 * j + 5 = omega arith in
    let t : tick_at u (6 * i + 4) ≡ tick_at w (6 * j + 4) = tick_cong u w (6 * i + 4) (6 * j + 4) (h 4 (omega arith)) (rw (c, d) (h 5 (omega arith))) in
    λ k. record { source = s k; destination = h 1 (omega arith) k; lookahead = l k; bound = t k }

pub edges_cong : (n : ℕ) (u w : List ℕ) → ((k : ℕ) → k < 6 * n → get_or u k 0 ≡ get_or w k 0) → edges_of n u ≡ edges_of n w
edges_cong n u w h = tab_cong _ _ 0 n (λ i a b. edge_cong u w i i (λ k c. h (6 * i + k) (omega arith)))

-- An event by the record read in its place, and its tick where it stands.
pub event_read : (w : List ℕ) (i : ℕ) (r : Record) → r ≡ record_in w (8 * i) → event_at w i ≡ event_of r
unfolding event_at
event_read w i r e = ap event_of (sym e)

pub event_to : (w : List ℕ) (i : ℕ) → (event_at w i).destination ≡ get_or w (8 * i) 0
unfolding event_at record_in
event_to w i = refl

pub event_tick : (w : List ℕ) (i : ℕ) → (event_at w i).tick ≡ tick_at w (8 * i + 1)
unfolding event_at record_in tick_at
event_tick w i = let e : 8 * i + 1 + 1 ≡ 8 * i + 2 = omega arith in rw e

-- A record stored.
module _ (w : List ℕ) (at : ℕ) (r : Record) (fits : at + 8 ≤ length w) where
  front : length (take at w) ≡ at
  front = let h : at ≤ length w = omega arith in length-take-le at w h

  inside : (j : ℕ) → get_or (put_record w at r) (at + j) 0 ≡ get_or (words_of r ++ drop (at + 8) w) j 0
  unfolding put_record
  inside j = ap (λ (k : ℕ). get_or (take at w ++ (words_of r ++ drop (at + 8) w)) (k + j) 0) (sym front) ∙ get_or-append-add (take at w) _ j 0

  pub record_same : record_in (put_record w at r) at ≡ r
  unfolding record_in
  record_same =
      let d : get_or (put_record w at r) at 0 ≡ r.destination = ap (λ (k : ℕ). get_or (put_record w at r) k 0) (sym (add-zero at)) ∙ inside 0 in
      λ i. record { destination = d i; hi = inside 1 i; lo = inside 2 i; source = inside 3 i; sequence = inside 4 i; len = inside 5 i; payload_hi = inside 6 i; payload_lo = inside 7 i }

  pub word_below : (k : ℕ) → k < at → get_or (put_record w at r) k 0 ≡ get_or w k 0
  unfolding put_record
  word_below k h =
      let g : k < length (take at w) = rw front h in
      get_or-append (take at w) _ 0 k g ∙ get_or-take at w k 0 h

  above : (k : ℕ) → get_or (put_record w at r) (at + (8 + k)) 0 ≡ get_or w (at + 8 + k) 0
  above k = inside (8 + k) ∙ get_or-append-add (words_of r) (drop (at + 8) w) k 0 ∙ get_or-drop (at + 8) w k 0

  pub word_past : (k : ℕ) → at + 8 ≤ k → get_or (put_record w at r) k 0 ≡ get_or w k 0
  word_past k h =
      let j = k - (at + 8) in
      let e : at + (8 + j) ≡ k = omega arith in
      let f : at + 8 + j ≡ k = omega arith in
      rw (e, f) at (above j)

-- The same of a list of events.
pub event_same : (w : List ℕ) (i : ℕ) (r : Record) → 8 * i + 8 ≤ length w → event_at (put_record w (8 * i) r) i ≡ event_of r
unfolding event_at
event_same w i r h = ap event_of (record_same w (8 * i) r h)

pub event_other : (w : List ℕ) (i k : ℕ) (r : Record) → 8 * i + 8 ≤ length w → k ≢ i → event_at (put_record w (8 * i) r) k ≡ event_at w k
event_other w i k r h ne =
    ⊎_elim
    (λ (b : k < i). event_cong _ w k k (λ j l. word_below w (8 * i) r h (8 * k + j) (omega arith)))
    (λ (b : i ≤ k). let c : i < k = omega (arith, ne) in event_cong _ w k k (λ j l. word_past w (8 * i) r h (8 * k + j) (omega arith)))
    (lt_or_ge k i)

-- Words behind the events set to zero.
pub events_cleared : (n from to : ℕ) (w : List ℕ) → 8 * n ≤ from → from ≤ to → to ≤ length w → events_of n (cleared from to w) ≡ events_of n w
events_cleared n from to w h a b = events_cong n _ w (λ k l. clear_front from to w a b k (omega arith))

-- A bound stored: its edge has it, and the others stay.
pub bound_same : (w : List ℕ) (i : ℕ) (t : SimTime) → 6 * i + 6 ≤ length w
    → edge_at (put_tick w (6 * i + 4) t) i ≡ with_bound (edge_at w i) (ticks_of t)
unfolding edge_at
bound_same w i t h = λ k. record {
  source = word_other w (6 * i + 4) t (6 * i) (λ e. omega arith) (λ e. omega arith) k;
  destination = word_other w (6 * i + 4) t (6 * i + 1) (λ e. omega arith) (λ e. omega arith) k;
  lookahead = tick_other w (6 * i + 4) t (6 * i + 2) (λ e. omega arith) (λ e. omega arith) (λ e. omega arith) k;
  bound = tick_same w (6 * i + 4) t (omega arith) k;
}

pub bound_other : (w : List ℕ) (i k : ℕ) (t : SimTime) → k ≢ i → edge_at (put_tick w (6 * i + 4) t) k ≡ edge_at w k
bound_other w i k t ne = edge_cong _ w k k (λ j l. word_other w (6 * i + 4) t (6 * k + j) (λ e. ne (omega arith)) (λ e. ne (omega arith)))

-- Eight stores.
pub eight_stores : (w : List ℕ) (at : ℕ) (r : Record) → at + 8 ≤ length w →
    set (set (set (set (set (set (set (set w at r.destination) (at + 1) r.hi) (at + 2) r.lo) (at + 3) r.source) (at + 4) r.sequence) (at + 5) r.len) (at + 6) r.payload_hi) (at + 7) r.payload_lo ≡ put_record w at r
unfolding put_record
eight_stores w at r h =
    let e₁ : at + 1 ≡ suc at = omega arith in
    let e₂ : at + 2 ≡ suc (suc at) = omega arith in
    let e₃ : at + 3 ≡ suc (suc (suc at)) = omega arith in
    let e₄ : at + 4 ≡ suc (suc (suc (suc at))) = omega arith in
    let e₅ : at + 5 ≡ suc (suc (suc (suc (suc at)))) = omega arith in
    let e₆ : at + 6 ≡ suc (suc (suc (suc (suc (suc at))))) = omega arith in
    let e₇ : at + 7 ≡ suc (suc (suc (suc (suc (suc (suc at)))))) = omega arith in
    rw (e₁, e₂, e₃, e₄, e₅, e₆, e₇) (sets-eq (words_of r) w at h ∙ append_assoc (take at w) (words_of r) (drop (at + 8) w))

-- A record stored where it was read.
pub record_back : (w : List ℕ) (at : ℕ) → at + 8 ≤ length w → put_record w at (record_in w at) ≡ w
unfolding record_in
record_back w at h = sym (eight_stores w at (record_in w at) h) ∙ simp set-get_or
