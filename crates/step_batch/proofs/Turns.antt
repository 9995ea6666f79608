-- One lemma for each return and each turn of the pass, over plain variables.
use mathlib.Core.Path.{◌≡◌, refl, sym, ap, ◌∙◌}
use mathlib.Core.Logic.{◌≢◌, ⊎_elim}
use mathlib.Core.Bool.{Bool, true, false, ◌&&◌}
use mathlib.Core.List.{List, [], ◌∷◌, ◌++◌, append_assoc, append-nil}
use Prim.Native.Nat.{ℕ, ◌+◌, ◌-◌, ◌*◌, ◌≤◌, ◌<◌}
use native.Mathlib.Omega.{arith}
use lib.Dec.{ltb}
use lib.ListN.{length, get_or}
use borrow.Author.Tests.{le-leb, lt-leb, lt-ltb}
use Rattle.types.specs.declared.SimTime.{SimTime}
use Rattle.types.specs.Value.{ticks_of}
use Rattle.types.proofs.Halves.{lt_or_ge}
use Rattle.rules.specs.State.{Event}
use Rattle.rules.proofs.Tests.{not_both}
use Rattle.words.specs.Words.{tab, tick_at}
use Rattle.words.proofs.Tab.{tab_cong, tab_push, tab_next}
use Rattle.records.specs.declared.Record.{Record}
use Rattle.records.specs.Records.{event_of, record_in, put_record, event_at, events_of, Owners}
use Rattle.records.proofs.Stored.{event_to, event_tick, event_same, event_other, word_past, record_back}
use Rattle.inbound.specs.Inbound.{frontier_in}
use Rattle.step_batch.specs.ScanRule.{takes, seen_by, scan}
use Rattle.step_batch.specs.Scan.{SameFrom, Scannable, EventScanned, TakesBatch}
use Rattle.step_batch.specs.declared.BatchScan.{BatchScan}
use Rattle.step_batch.proofs.ScanRule.{scan_take, scan_keep, takes_means}

-- is_taken
module _ (processes : List ℕ) (H to room : ℕ) where
  pub no_room : (k : ℕ) → room ≡ 0 → false ≡ (ltb 0 room && ltb k (frontier_in processes H to))
  no_room k z = rw z

  pub by_tick_holds : (t f : SimTime) (b : Bool) → (room ≡ 0 → ⊥) → ticks_of f ≡ frontier_in processes H to → b ≡ ltb (ticks_of t) (ticks_of f) → b ≡ (ltb 0 room && ltb (ticks_of t) (frontier_in processes H to))
  by_tick_holds t f b z ef eb =
      let g : 0 < room = ⊎_elim (λ (x : 0 < room). x) (λ (x : room ≤ 0). absurd (z (omega arith))) (lt_or_ge 0 room) in
      rw (lt-ltb 0 room g, eb, ef)

-- keep
pub keep_moved : (w u : List ℕ) (i kept : ℕ) (e : Record) → e ≡ record_in w (8 * i) → u ≡ put_record w (8 * kept) e → u ≡ put_record w (8 * kept) (record_in w (8 * i))
keep_moved w u i kept e ee eu = eu ∙ ap (put_record w (8 * kept)) ee

pub keep_here : (w : List ℕ) (i kept : ℕ) → kept ≤ i → i ≤ kept → 8 * i + 8 ≤ length w → w ≡ put_record w (8 * kept) (record_in w (8 * i))
keep_here w i kept a b h = let z : kept ≡ i = omega arith in rw z (sym (record_back w (8 * i) h))

-- scan_event
past : (w : List ℕ) (k : ℕ) (r : Record) → 8 * k + 8 ≤ length w → SameFrom (8 * k + 8) (put_record w (8 * k) r) w
unfolding SameFrom
past w k r h j l = word_past w (8 * k) r h j l

read_back : (w : List ℕ) (i : ℕ) → event_of (record_in w (8 * i)) ≡ event_at w i
unfolding event_at
read_back w i = refl

pub owner : (i : ℕ) (w processes b : List ℕ) (s : BatchScan) → Scannable i w processes b s → get_or w (8 * i) 0 < 64
owner i w processes b s m = rw (event_to w i) at m.owner

module _ (i : ℕ) (w processes b : List ℕ) (s : BatchScan) (m : Scannable i w processes b s) (H : ℕ) where
  abbrev to : ℕ
  to = get_or w (8 * i) 0

  abbrev safe : ℕ → ℕ
  safe = frontier_in processes H

  abbrev decided : Bool
  decided = takes safe s.room s.seen (event_at w i)

  -- Event i goes behind those kept.
  kept_event : (u : List ℕ) (seen : ℕ) → decided ≡ false → seen ≡ seen_by s.seen (event_at w i) → u ≡ put_record w (8 * s.kept) (record_in w (8 * i))
      → EventScanned i safe w b u b s (record { kept = s.kept + 1; taken = s.taken; room = s.room; seen = seen })
  kept_event u seen n es eu =
      let h : 8 * s.kept + 8 ≤ length w = omega (arith, m.kept, m.index, m.words) in
      let r : Record = record_in w (8 * i) in
      record {
        seen = es;
        when_taken = λ y. not_both y n;
        when_kept = λ _. (refl, refl, refl, refl, rw eu (event_same w s.kept r h) ∙ read_back w i, λ k l. rw eu (event_other w s.kept k r h l), rw eu (past w s.kept r h));
      }

  -- Its process is seen already.
  pub scanned_seen : (u : List ℕ) → to < s.seen → u ≡ put_record w (8 * s.kept) (record_in w (8 * i)) → EventScanned i safe w b u b s (record { kept = s.kept + 1; taken = s.taken; room = s.room; seen = s.seen })
  unfolding takes
  scanned_seen u h eu =
      let n : decided ≡ false = rw (event_to w i, lt-leb s.seen to h) in
      kept_event u s.seen n (omega (arith, event_to w i)) eu

  -- It is not, and t is the answer of is_taken.
  module _ (k : SimTime) (t : Bool) (h : s.seen ≤ to) (ek : ticks_of k ≡ tick_at w (8 * i + 1)) (et : t ≡ (ltb 0 s.room && ltb (ticks_of k) (safe to))) where
    is_decided : decided ≡ t
    unfolding takes
    is_decided = rw (event_to w i, event_tick w i, le-leb s.seen to h, ← ek) (sym et)

    seen_is : to + 1 ≡ seen_by s.seen (event_at w i)
    seen_is = omega (arith, event_to w i)

    pub scanned_kept : (u : List ℕ) → t ≡ false → u ≡ put_record w (8 * s.kept) (record_in w (8 * i)) → EventScanned i safe w b u b s (record { kept = s.kept + 1; taken = s.taken; room = s.room; seen = to + 1 })
    scanned_kept u n eu = kept_event u (to + 1) (is_decided ∙ n) seen_is eu

    -- The next place of the batch is one of its 64.
    module _ (y : t ≡ true) where
      pub place : (s.taken < 64) × (0 < s.room)
      place = let g = takes_means safe s.room s.seen (event_at w i) (is_decided ∙ y) in (omega (arith, owner i w processes b s m, m.taken), g.1)

      pub scanned_taken : (e : Record) (c : List ℕ) → e ≡ record_in w (8 * i) → c ≡ put_record b (8 * s.taken) e → EventScanned i safe w b w c s (record { kept = s.kept; taken = s.taken + 1; room = s.room - 1; seen = to + 1 })
      scanned_taken e c ee ec =
          let l : 8 * s.taken + 8 ≤ length b = omega (arith, place.0, m.places) in
          let z : event_of e ≡ event_at w i = ap event_of ee ∙ read_back w i in
          record {
            seen = seen_is;
            when_taken = λ _. (refl, refl, refl, refl, rw ec (event_same b s.taken e l) ∙ z, λ j n. rw ec (event_other b s.taken j e l n), rw ec (past b s.taken e l));
            when_kept = λ n. not_both (is_decided ∙ y) n;
          }

-- take_batch: the events before i are passed.
pub record Scanning (n : ℕ) (safe : ℕ → ℕ) (room : ℕ) (w₀ b₀ w c : List ℕ) (kept taken rest seen i : ℕ) : Type 0 where
  pub counts : kept + taken ≡ i
  pub ranks : taken ≤ seen
  pub ahead : (k : ℕ) → i ≤ k → event_at w k ≡ event_at w₀ k
  pub events : (scan safe room 0 (events_of n w₀)).events ≡ events_of taken c ++ (scan safe rest seen (tab (event_at w₀) i (n - i))).events
  pub left : (scan safe room 0 (events_of n w₀)).left ≡ events_of kept w ++ (scan safe rest seen (tab (event_at w₀) i (n - i))).left
  pub beyond : SameFrom (8 * n) w w₀
  pub behind : SameFrom (8 * taken) c b₀

more : (f g : ℕ → Event) (k : ℕ) (x : Event) (r : List Event) → g k ≡ x → ((j : ℕ) → j ≢ k → g j ≡ f j) → tab f 0 k ++ (x ∷ r) ≡ tab g 0 (k + 1) ++ r
more f g k x r e o =
    let a : tab g 0 k ≡ tab f 0 k = tab_cong g f 0 k (λ j l h. o j (λ z. omega arith)) in
    rw (tab_push g k, e, a) (sym (append_assoc (tab f 0 k) (x ∷ []) r))

same_both : (k l m : ℕ) (u w w₀ : List ℕ) → k ≤ m → l ≤ m → SameFrom k u w → SameFrom l w w₀ → SameFrom m u w₀
unfolding SameFrom
same_both k l m u w w₀ a b p q j h = p j (omega arith) ∙ q j (omega arith)

same_from : (k : ℕ) (w : List ℕ) → SameFrom k w w
unfolding SameFrom
same_from k w j h = refl

module _ (n : ℕ) (safe : ℕ → ℕ) (room : ℕ) (w₀ b₀ w b : List ℕ) (kept taken rest seen i : ℕ) (lt : i < n) (s : Scanning n safe room w₀ b₀ w b kept taken rest seen i) where
  same : event_at w i ≡ event_at w₀ i
  same = s.ahead i (omega arith)

  pub take_turn : (c : List ℕ) → takes safe rest seen (event_at w i) ≡ true → event_at c taken ≡ event_at w i → ((k : ℕ) → k ≢ taken → event_at c k ≡ event_at b k) → SameFrom (8 * taken + 8) c b
      → Scanning n safe room w₀ b₀ w c kept (taken + 1) (rest - 1) (seen_by seen (event_at w i)) (i + 1)
  take_turn c t e o d =
      let t₀ : takes safe rest seen (event_at w₀ i) ≡ true = sym (ap (takes safe rest seen) same) ∙ t in
      let k = scan_take safe rest seen (event_at w₀ i) (tab (event_at w₀) (i + 1) (n - (i + 1))) t₀ in
      record {
        counts = omega (arith, s.counts);
        ranks = omega (arith, s.ranks, (takes_means safe rest seen (event_at w i) t).0);
        ahead = λ j l. s.ahead j (omega arith);
        events = s.events ∙ rw (tab_next (event_at w₀) i n lt, k, same) (more (event_at b) (event_at c) taken (event_at w₀ i) _ (e ∙ same) o);
        left = s.left ∙ rw (tab_next (event_at w₀) i n lt, k, same);
        beyond = s.beyond;
        behind = same_both (8 * taken + 8) (8 * taken) (8 * (taken + 1)) c b b₀ (omega arith) (omega arith) d s.behind;
      }

  pub keep_turn : (u : List ℕ) → takes safe rest seen (event_at w i) ≡ false → event_at u kept ≡ event_at w i → ((k : ℕ) → k ≢ kept → event_at u k ≡ event_at w k) → SameFrom (8 * kept + 8) u w
      → Scanning n safe room w₀ b₀ u b (kept + 1) taken rest (seen_by seen (event_at w i)) (i + 1)
  keep_turn u t e o d =
      let t₀ : takes safe rest seen (event_at w₀ i) ≡ false = sym (ap (takes safe rest seen) same) ∙ t in
      let k = scan_keep safe rest seen (event_at w₀ i) (tab (event_at w₀) (i + 1) (n - (i + 1))) t₀ in
      record {
        counts = omega (arith, s.counts);
        ranks = omega (arith, s.ranks);
        ahead = λ j l. o j (λ x. omega (arith, s.counts)) ∙ s.ahead j (omega arith);
        events = s.events ∙ rw (tab_next (event_at w₀) i n lt, k, same);
        left = s.left ∙ rw (tab_next (event_at w₀) i n lt, k, same) (more (event_at w) (event_at u) kept (event_at w₀ i) _ (e ∙ same) o);
        beyond = same_both (8 * kept + 8) (8 * n) (8 * n) u w w₀ (omega (arith, s.counts)) (omega arith) d s.beyond;
        behind = s.behind;
      }

pub scanning_start : (n : ℕ) (safe : ℕ → ℕ) (room : ℕ) (w c : List ℕ) → Scanning n safe room w c w c 0 0 room 0 0
unfolding tab
scanning_start n safe room w c =
    let z : n - 0 ≡ n = omega arith in
    record {
      counts = omega arith;
      ranks = omega arith;
      ahead = λ k h. refl;
      events = rw z;
      left = rw z;
      beyond = same_from (8 * n) w;
      behind = same_from (8 * 0) c;
    }

pub scanning_more : (n : ℕ) (safe : ℕ → ℕ) (room : ℕ) (w₀ b₀ w b u c : List ℕ) (s r : BatchScan) (i : ℕ) → i < n → Scanning n safe room w₀ b₀ w b s.kept s.taken s.room s.seen i
    → EventScanned i safe w b u c s r → Scanning n safe room w₀ b₀ u c r.kept r.taken r.room r.seen (i + 1)
scanning_more n safe room w₀ b₀ w b u c s r i h f d = go (takes safe s.room s.seen (event_at w i)) refl
  where
    go : (t : Bool) → takes safe s.room s.seen (event_at w i) ≡ t → Scanning n safe room w₀ b₀ u c r.kept r.taken r.room r.seen (i + 1)
    go true t =
        let y = d.when_taken t in
        rw (y.0, y.1, y.2, y.3, d.seen) (take_turn n safe room w₀ b₀ w b s.kept s.taken s.room s.seen i h f c t y.4 y.5 y.6)
    go false t =
        let y = d.when_kept t in
        rw (y.0, y.1, y.2, y.3, d.seen) (keep_turn n safe room w₀ b₀ w b s.kept s.taken s.room s.seen i h f u t y.4 y.5 y.6)

pub scanning_end : (n : ℕ) (safe : ℕ → ℕ) (room : ℕ) (w₀ b₀ w c : List ℕ) (s : BatchScan) (i : ℕ) → n ≤ i → i ≤ n → Scanning n safe room w₀ b₀ w c s.kept s.taken s.room s.seen i → TakesBatch n safe room w₀ b₀ w c s
unfolding tab scan
scanning_end n safe room w₀ b₀ w c s i h within f =
    let z : n - i ≡ 0 = omega arith in
    record {
      events = sym (append-nil _) ∙ sym (rw z at f.events);
      left = sym (append-nil _) ∙ sym (rw z at f.left);
      counts = omega (arith, f.counts);
      beyond = f.beyond;
      behind = f.behind;
    }

pub scannable_at : (n : ℕ) (safe : ℕ → ℕ) (room : ℕ) (w₀ b₀ w processes c : List ℕ) (s : BatchScan) (i : ℕ) → i < n → n ≤ 512 → length w ≡ 4096 → length processes ≡ 256 → length c ≡ 512 → Owners n w₀
    → Scanning n safe room w₀ b₀ w c s.kept s.taken s.room s.seen i → Scannable i w processes c s
unfolding Owners
scannable_at n safe room w₀ b₀ w processes c s i h l a b d o f = record {
  index = omega arith;
  kept = omega (arith, f.counts);
  taken = f.ranks;
  owner = let e : (event_at w i).destination ≡ (event_at w₀ i).destination = ap (λ (x : Event). x.destination) (f.ahead i (omega arith)) in rw e (o i h);
  words = a;
  table = b;
  places = d;
}
