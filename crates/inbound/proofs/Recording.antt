-- Edges go on record from the last to the first; and what a record says is the rules' frontier.
use mathlib.Core.Path.{◌≡◌, refl, sym, ap, ◌∙◌}
use mathlib.Core.Logic.{⊎_elim}
use mathlib.Core.List.{List, [], ◌∷◌, ◌++◌, map}
use Prim.Native.Nat.{ℕ, zero, suc, ◌+◌, ◌-◌, ◌*◌, ◌≤◌, ◌<◌, min}
use native.Mathlib.Omega.{arith}
use lib.ListN.{length, get_or, take, get_or-append}
use lib.Seq.{length-take-le, get_or-take, get_or-append-add}
use borrow.Rule.Slice.PartMut.{mid_of, put_mid}
use borrow.Author.Tests.{eqb-true, eqb-false}
use Rattle.types.specs.declared.SimTime.{SimTime}
use Rattle.types.specs.Value.{ticks_of}
use Rattle.types.proofs.Halves.{lt_or_ge}
use Rattle.words.specs.Words.{tab, tick_at, tick_of, filled, LowersTick, inbound_at, inbounds_of}
use Rattle.words.proofs.Tab.{tab_cong, tab_step, tab_none, tab_whole}
use Rattle.words.proofs.Ticks.{tick_cong, fill_at, table_same, table_other}
use Rattle.records.specs.Records.{edge_at, edges_of}
use Rattle.records.proofs.Moved.{tail_back}
use Rattle.rules.specs.Base.{up_from, up_to}
use Rattle.rules.specs.State.{Edge, max_tick}
use Rattle.rules.specs.Frontiers.{least_into, least_inbound, inbound_of, recorded, safe}
use Rattle.rules.proofs.Tests.{by_test}
use Rattle.inbound.specs.Inbound.{frontier_in, LowersInbound, RecordsInbound, Destinations}

-- The tick of process d falls to b.
pub lowered : (edges w u : List ℕ) (i : ℕ) (b : SimTime) → ticks_of b ≡ tick_at edges (6 * i + 4) → get_or edges (6 * i + 1) 0 < 64 → length w ≡ 256 → LowersTick w (2 * (64 + get_or edges (6 * i + 1) 0)) b u → LowersInbound (edge_at edges i) w u
unfolding edge_at
lowered edges w u i b e h l s =
    let d = 64 + get_or edges (6 * i + 1) 0 in
    ⊎_elim
    (λ (y : ticks_of b < tick_of w d). rw (s.falls y) (record { here = table_same w d b (omega arith) ∙ rw (← e) (omega arith); others = λ k ne. table_other w d k b ne }))
    (λ (n : tick_of w d ≤ ticks_of b). rw (s.unchanged n) (record { here = rw (← e) (omega arith); others = λ k ne. refl }))
    (lt_or_ge (ticks_of b) (tick_of w d))

-- One edge more.
pub recorded_more : (n : ℕ) (e : Edge) (es : List Edge) (w₀ w u : List ℕ) → RecordsInbound n es w₀ w → LowersInbound e w u → RecordsInbound n (e ∷ es) w₀ u
unfolding least_into
recorded_more n e es w₀ w u r l = record {
  inbound = λ p h. by_test (λ (x : ℕ). inbound_at u p ≡ x)
      (λ t. let z : e.destination ≡ p = eqb-true e.destination p t in rw (← z) (l.here ∙ ap (min e.bound) (r.inbound e.destination (rw z h))))
      (λ t. l.others (64 + p) (λ x. eqb-false e.destination p t (omega arith)) ∙ r.inbound p h);
  horizons = λ p h. l.others p (λ x. omega arith) ∙ r.horizons p h;
}

-- The ticks of n processes from place 64 on are filled with the largest; those in front of them stay.
module _ (w f : List ℕ) (l : length w ≡ 256) where
  fore : length (take 128 w) ≡ 128
  fore = let h : 128 ≤ length w = omega arith in length-take-le 128 w h

  behind : (j k : ℕ) → k ≡ 128 + j → get_or (take 128 w ++ f) k 0 ≡ get_or f j 0
  behind j k e =
      let u = take 128 w ++ f in
      ap (λ (x : ℕ). get_or u x 0) e ∙ ap (λ (x : ℕ). get_or u (x + j) 0) (sym fore) ∙ get_or-append-add (take 128 w) f j 0

  ahead : (k : ℕ) → k < 128 → get_or (take 128 w ++ f) k 0 ≡ get_or w k 0
  ahead k h = let g : k < length (take 128 w) = rw fore h in get_or-append (take 128 w) f 0 k g ∙ get_or-take 128 w k 0 h

  pub reset_holds : (n : ℕ) (t : SimTime) → n ≤ 64 → ticks_of t ≡ max_tick → f ≡ filled n t (mid_of 128 (length w - 128) w) → RecordsInbound n [] w (put_mid 128 (length w - 128) w f)
  unfolding least_into
  reset_holds n t few e q = rw (tail_back 128 w f) (record {
    inbound = λ p h. tick_cong (take 128 w ++ f) f (2 * (64 + p)) (2 * p) (behind (2 * p) _ (omega arith)) (behind (2 * p + 1) _ (omega arith)) ∙ rw q (fill_at n p t _ h) ∙ e;
    horizons = λ p h. tick_cong (take 128 w ++ f) w (2 * p) (2 * p) (ahead (2 * p) (omega arith)) (ahead (2 * p + 1) (omega arith));
  })

-- The edges from i on are on record.
module _ (edges : List ℕ) (m n : ℕ) (w₀ : List ℕ) where
  pub record Recording (i : ℕ) (w : List ℕ) : Type 0 where
    pub within : i ≤ m
    pub records : RecordsInbound n (tab (edge_at edges) i (m - i)) w₀ w

  pub recording_start : (v : List ℕ) → RecordsInbound n [] v w₀ → Recording m w₀
  recording_start v r = record { within = omega arith; records = rw (tab_none (edge_at edges) m m (omega arith)) (record { inbound = r.inbound; horizons = λ p h. refl }) }

  pub recording_more : (i : ℕ) (w u : List ℕ) → 0 < i → Recording i w → LowersInbound (edge_at edges (i - 1)) w u → Recording (i - 1) u
  recording_more i w u h r l = record { within = omega (arith, r.within); records = rw (tab_step (edge_at edges) i m h r.within) (recorded_more n (edge_at edges (i - 1)) _ w₀ w u r.records l) }

  pub recording_end : (v : List ℕ) (i : ℕ) (w : List ℕ) → i ≤ 0 → RecordsInbound n [] v w₀ → Recording i w → RecordsInbound n (edges_of m edges) v w
  recording_end v i w o q r =
      let z : i ≡ 0 = omega arith in
      let all : RecordsInbound n (edges_of m edges) w₀ w = rw (tab_whole (edge_at edges) i m z) at r.records in
      record { inbound = all.inbound; horizons = λ p h. all.horizons p h ∙ q.horizons p h }

  pub destination_at : (i : ℕ) (w : List ℕ) → 0 < i → Recording i w → Destinations 64 m edges → get_or edges (6 * (i - 1) + 1) 0 < 64
  unfolding Destinations edge_at
  destination_at i w h r d = d (i - 1) (omega (arith, r.within))

-- In the words of the rules: the record as a list, and the frontier read from it.
at_place : (f : ℕ → ℕ) (d i n p : ℕ) → p < n → get_or (tab f i n) p d ≡ f (i + p)
unfolding tab
at_place f d i zero p h = absurd (omega arith)
at_place f d i (suc n) zero h = let z : i ≡ i + 0 = omega arith in ap f z
at_place f d i (suc n) (suc p) h = let z : suc i + p ≡ i + suc p = omega arith in at_place f d (suc i) n p (omega arith) ∙ ap f z

pub recorded_in : (n p : ℕ) (w : List ℕ) → p < n → recorded (inbounds_of n w) p ≡ inbound_at w p
recorded_in n p w h = let z : 0 + p ≡ p = omega arith in at_place (inbound_at w) max_tick 0 n p h ∙ ap (inbound_at w) z

pub safe_in : (n H p : ℕ) (w : List ℕ) → p < n → safe (inbounds_of n w) H p ≡ frontier_in w H p
unfolding safe
safe_in n H p w h = ap (λ (x : ℕ). min x H) (recorded_in n p w h)

made : (f : ℕ → ℕ) (i n : ℕ) → tab f i n ≡ map f (up_from i n)
unfolding tab up_from
made f i zero = refl
made f i (suc n) = ap (λ (l : List ℕ). f i ∷ l) (made f (suc i) n)

pub inbounds_made : (n : ℕ) (es : List Edge) (w u : List ℕ) → RecordsInbound n es w u → inbounds_of n u ≡ inbound_of n es
unfolding inbound_of up_to
inbounds_made n es w u r = tab_cong _ _ 0 n (λ p a b. r.inbound p (omega arith)) ∙ made (least_inbound es) 0 n
