-- The table of lookaheads: of no edges, one edge more, and what is read off it.
use mathlib.Core.Path.{◌≡◌, refl, sym, ◌∙◌}
use mathlib.Core.Logic.{⊎_elim}
use mathlib.Core.Bool.{false, ◌&&◌}
use mathlib.Core.List.{List, []}
use Prim.Native.Nat.{ℕ, ◌+◌, ◌-◌, ◌*◌, ◌≤◌, ◌<◌}
use native.Mathlib.Omega.{arith}
use lib.Dec.{eqb}
use lib.ListN.{length, get_or, get_or-eq_default}
use borrow.Author.Tests.{lt-ltb, le-ltb, eq-eqb, eqb-true}
use Rattle.types.specs.declared.SimTime.{SimTime}
use Rattle.types.specs.declared.SimDuration.{SimDuration}
use Rattle.types.specs.Value.{halves, ticks_of, duration_of, lp_id_of}
use Rattle.types.proofs.Halves.{lt_or_ge}
use Rattle.words.specs.Words.{tick_at, tick_of, put_tick}
use Rattle.words.proofs.Ticks.{tick_same, tick_other}
use Rattle.records.specs.Records.{edge_at, edges_of}
use Rattle.rules.specs.Base.{if◌then◌otherwise◌}
use Rattle.rules.specs.Pending.{lookahead_along}
use Rattle.rules.proofs.Tests.{by_test, and_left, and_right, and_both, not_both}
use Rattle.reply_words.specs.declared.Emission.{Emission}
use Rattle.edges.proofs.Marks.{source_below, destination_below, not_unknown}
use Rattle.hand_back_edges.specs.Looks.{Looks, LooksMore}
use Rattle.hand_back_edges.specs.Lookaheads.{lookahead_in, PutsLookahead, CanFindLookaheads, FoundLookaheads}
use Rattle.hand_back_edges.proofs.Finding.{Looking, looking_start, looking_more, looking_end}

-- What is read off a table.
module _ (w : List ℕ) (a b : ℕ) where
  in_column : b < 64 → lookahead_in w a b ≡ tick_of w (64 * a + b)
  unfolding lookahead_in if◌then◌otherwise◌
  in_column l = rw (lt-ltb b 64 l)

  no_column : 64 ≤ b → lookahead_in w a b ≡ 0
  unfolding lookahead_in if◌then◌otherwise◌
  no_column l = rw (le-ltb b 64 l)

-- Two pairs at the same place.
same_pair : (a b f d : ℕ) → b < 64 → d < 64 → 64 * a + b ≡ 64 * f + d → (a ≡ f) × (b ≡ d)
same_pair a b f d l m e = (omega arith, omega arith)

-- Edge i is put in.
module _ (E : List ℕ) (i : ℕ) (w : List ℕ) (long : 8192 ≤ length w) (from-below : get_or E (6 * i) 0 < 64) (to_below : get_or E (6 * i + 1) 0 < 64) (t : SimTime) (e : ticks_of t ≡ tick_at E (6 * i + 2)) where
  abbrev from : ℕ
  from = get_or E (6 * i) 0

  abbrev to : ℕ
  to = get_or E (6 * i + 1) 0

  abbrev u : List ℕ
  u = put_tick w (2 * (64 * from + to)) t

  same_pair_told : lookahead_in u from to ≡ tick_at E (6 * i + 2)
  same_pair_told = in_column u from to to_below ∙ tick_same w (2 * (64 * from + to)) t (omega arith) ∙ e

  other_pair : (a b : ℕ) → (eqb from a && eqb to b) ≡ false → lookahead_in u a b ≡ lookahead_in w a b
  other_pair a b j =
      ⊎_elim
      (λ (l : b < 64).
      let n : (64 * a + b ≡ 64 * from + to → ⊥) = λ x.
      let s = same_pair a b from to l to_below x in
      not_both (and_both (eqb from a) (eqb to b) (eq-eqb from a (sym s.0)) (eq-eqb to b (sym s.1))) j in
      in_column u a b l ∙ tick_other w (2 * (64 * from + to)) t (2 * (64 * a + b)) (λ x. n (omega arith)) (λ x. omega arith) (λ x. omega arith) ∙ sym (in_column w a b l))
      (λ (l : 64 ≤ b). no_column u a b l ∙ sym (no_column w a b l))
      (lt_or_ge b 64)

  put_told : PutsLookahead (edge_at E i) w u
  unfolding PutsLookahead LooksMore Looks lookahead_along edge_at
  put_told T es g a b q =
      by_test (λ (x : ℕ). lookahead_in u a b ≡ x)
      (λ j.
      let x : from ≡ a = eqb-true from a (and_left (eqb from a) (eqb to b) j) in
      let y : to ≡ b = eqb-true to b (and_right (eqb from a) (eqb to b) j) in
      rw (← x, ← y) same_pair_told)
      (λ j. other_pair a b j ∙ g a b q)

  pub put_lookahead : (v : List ℕ) → v ≡ u → PutsLookahead (edge_at E i) w v
  put_lookahead v h = rw h put_told

-- The edges from i on are passed.
pub record Telling (E : List ℕ) (n : ℕ) (w₀ : List ℕ) (i : ℕ) (w : List ℕ) : Type 0 where
  pub same : length w ≡ length w₀
  pub looking : (T : List ℕ) → Looking E n T (lookahead_in w) i

module _ (E : List ℕ) (n : ℕ) (w₀ : List ℕ) (c : CanFindLookaheads E n w₀) where
  no_lookaheads : (T : List ℕ) → Looks [] T (lookahead_in w₀)
  unfolding Looks lookahead_in lookahead_along tick_at halves
  no_lookaheads T a b p = by_test (λ (x : ℕ). x ≡ 0) (λ _. rw (c.empty (2 * (64 * a + b)), c.empty (2 * (64 * a + b) + 1))) (λ _. refl)

  pub telling_start : Telling E n w₀ n w₀
  telling_start = record { same = refl; looking = λ T. looking_start E n T (lookahead_in w₀) (no_lookaheads T) }

  module _ (i : ℕ) (w : List ℕ) (f : Telling E n w₀ i w) where
    pub telling_asks : 0 < i → i ≤ n → (6 * (i - 1) + 6 ≤ length E) × (8192 ≤ length w) × (get_or E (6 * (i - 1)) 0 < 64) × (get_or E (6 * (i - 1) + 1) 0 < 64)
    telling_asks h l =
        let k = not_unknown E n i h l c.known in
        (omega (arith, c.edge_words), omega (arith, c.table_words, f.same), source_below E (i - 1) k, destination_below E (i - 1) k)

    pub telling_more : 0 < i → i ≤ n → (u : List ℕ) → length u ≡ length w → PutsLookahead (edge_at E (i - 1)) w u → Telling E n w₀ (i - 1) u
    unfolding PutsLookahead
    telling_more h l u e m = record { same = e ∙ f.same; looking = λ T. looking_more E n T (lookahead_in w) i (f.looking T) h l (lookahead_in u) (m T) }

    pub telling_end : i ≤ 0 → FoundLookaheads (edges_of n E) w
    unfolding FoundLookaheads
    telling_end h T = looking_end E n T (lookahead_in w) i (f.looking T) h

-- What each return of a lookup gives, from the process a to b.
module _ (w : List ℕ) (n : length w ≡ 8192) (e : Emission) (a : ℕ) (sa : a ≡ lp_id_of e.emitter) (b : ℕ) (sb : b ≡ lp_id_of e.destination) where
  abbrev Told : SimDuration → Type 0
  Told r = duration_of r ≡ lookahead_in w (lp_id_of e.emitter) (lp_id_of e.destination)

  told : (x : ℕ) → lookahead_in w a b ≡ x → (r : SimDuration) → duration_of r ≡ x → Told r
  told x h r d = d ∙ sym h ∙ (λ i. lookahead_in w (sa i) (sb i))

  past : 64 ≤ a → lookahead_in w a b ≡ 0
  unfolding lookahead_in tick_at halves
  past l =
      let g : length w ≤ 2 * (64 * a + b) = omega arith in
      let h : length w ≤ 2 * (64 * a + b) + 1 = omega arith in
      by_test (λ (x : ℕ). x ≡ 0) (λ _. rw (get_or-eq_default w 0 g, get_or-eq_default w 0 h)) (λ _. refl)

  pub told_past : 64 ≤ a → (r : SimDuration) → duration_of r ≡ 0 → Told r
  told_past l = told 0 (past l)

  pub told_beyond : 64 ≤ b → (r : SimDuration) → duration_of r ≡ 0 → Told r
  told_beyond l = told 0 (no_column w a b l)

  pub told_pair : b < 64 → (r : SimDuration) → duration_of r ≡ tick_at w (2 * (64 * a + b)) → Told r
  told_pair l = told _ (in_column w a b l)
