-- The table of edges: of no edges, one edge more, and what is read off it.
use mathlib.Core.Path.{◌≡◌, refl, sym, ap, ◌∙◌}
use mathlib.Core.Logic.{⊎_elim}
use mathlib.Core.Bool.{false, ◌&&◌}
use mathlib.Core.List.{List, []}
use Prim.Native.Nat.{ℕ, suc, ◌+◌, ◌-◌, ◌*◌, ◌≤◌, ◌<◌}
use native.Mathlib.Omega.{arith}
use native.Mathlib.Numerals.{add-one}
use lib.Dec.{eqb}
use lib.ListN.{length, get_or, set}
use lib.Seq.{get_or-set_same, get_or-set_other}
use borrow.Author.Tests.{lt-ltb, eq-eqb, ne_eqb, eqb-true, ltb-true}
use Rattle.types.specs.declared.SimDuration.{SimDuration}
use Rattle.types.specs.Value.{duration_of, lp_id_of}
use Rattle.types.proofs.Halves.{lt_or_ge}
use Rattle.words.specs.Words.{tab}
use Rattle.words.proofs.Tab.{tab_step, tab_none, tab_whole}
use Rattle.records.specs.Records.{edge_at, edges_of}
use Rattle.rules.specs.Base.{if◌then◌otherwise◌}
use Rattle.rules.specs.Pending.{lookahead_along}
use Rattle.rules.proofs.Tests.{by_test, by_bool, and_left, and_right, and_both, not_both}
use Rattle.reply_words.specs.declared.Emission.{Emission}
use Rattle.reply_words.proofs.Table.{past_end}
use Rattle.edges.proofs.Marks.{source_below, destination_below, not_unknown}
use Rattle.hand_back_edges.specs.Looks.{Looks, entry_lookahead, entry_place, look_in_table, Rows, LooksMore, Puts, CanFind, Found, CanLook}

-- What is read off a table.
module _ (E t T : List ℕ) (a b : ℕ) where
  pub no_row : get_or T a 0 ≡ 0 → look_in_table E t T a b ≡ 0
  unfolding look_in_table if◌then◌otherwise◌
  no_row z = rw (eq-eqb (get_or T a 0) 0 z)

  pub no_column : 64 ≤ b → look_in_table E t T a b ≡ 0
  unfolding look_in_table
  no_column l = by_test (λ (x : ℕ). x ≡ 0) (λ _. refl) (λ _. by_test (λ (x : ℕ). x ≡ 0) (λ h. absurd (omega (arith, ltb-true b 64 h))) (λ _. refl))

  pub in_row : (get_or T a 0 ≡ 0 → ⊥) → b < 64 → look_in_table E t T a b ≡ entry_lookahead E (get_or t (entry_place T a b) 0)
  unfolding look_in_table if◌then◌otherwise◌
  in_row p l = rw (ne_eqb (get_or T a 0) 0 p, lt-ltb b 64 l)

-- Two entries at the same place.
same_place : (x y b d : ℕ) → (x ≡ 0 → ⊥) → (y ≡ 0 → ⊥) → b < 64 → d < 64 → 64 * (x - 1) + b ≡ 64 * (y - 1) + d → (x ≡ y) × (b ≡ d)
same_place x y b d p q l m e = (omega arith, omega arith)

-- Edge i is put in.
module _ (E : List ℕ) (i : ℕ) (T t : List ℕ) (to_below : get_or E (6 * i + 1) 0 < 64) (r : Rows T (length t)) where
  abbrev from : ℕ
  from = get_or E (6 * i) 0

  abbrev to : ℕ
  to = get_or E (6 * i + 1) 0

  -- Its source has no place.
  pub put_none : get_or T from 0 ≡ 0 → Puts E i T t t
  unfolding LooksMore Looks lookahead_along edge_at
  put_none z = record {
    looks = λ es g a b p. by_test (λ (x : ℕ). look_in_table E t T a b ≡ x) (λ j. absurd (p (ap (λ (x : ℕ). get_or T x 0) (sym (eqb-true from a (and_left (eqb from a) (eqb to b) j))) ∙ z))) (λ j. g a b p);
    entries = λ n l g. g;
  }

  module _ (p : get_or T from 0 ≡ 0 → ⊥) where
    pub row_free : (0 < get_or T from 0) × (64 * get_or T from 0 ≤ length t)
    row_free = (omega arith, r.within from)

    there : entry_place T from to < length t
    there = omega (arith, p, to_below, r.within from)

    abbrev u : List ℕ
    u = set t (entry_place T from to) (i + 1)

    same_entry : look_in_table E u T from to ≡ (edge_at E i).lookahead
    unfolding entry_lookahead
    same_entry = in_row E u T from to p to_below ∙ rw (get_or-set_same t (entry_place T from to) (i + 1) 0 there, add-one)

    other_entry : (a b : ℕ) → (get_or T a 0 ≡ 0 → ⊥) → (eqb from a && eqb to b) ≡ false → look_in_table E u T a b ≡ look_in_table E t T a b
    other_entry a b q j =
        ⊎_elim
        (λ (l : b < 64).
        let n : (entry_place T a b ≡ entry_place T from to → ⊥) = λ e.
        let s = same_place (get_or T a 0) (get_or T from 0) b to q p l to_below e in
        not_both (and_both (eqb from a) (eqb to b) (eq-eqb from a (sym (r.apart a from q s.0))) (eq-eqb to b (sym s.1))) j in
        in_row E u T a b q l ∙ ap (entry_lookahead E) (get_or-set_other t (entry_place T from to) (entry_place T a b) (i + 1) 0 n) ∙ sym (in_row E t T a b q l))
        (λ (l : 64 ≤ b). no_column E u T a b l ∙ sym (no_column E t T a b l))
        (lt_or_ge b 64)

    entry_below : (n : ℕ) → i < n → ((j : ℕ) → get_or t j 0 ≤ n) → (j : ℕ) → get_or u j 0 ≤ n
    entry_below n l g j =
        by_bool (eqb (entry_place T from to) j)
        (λ e. let x : entry_place T from to ≡ j = eqb-true _ j e in rw (← x, get_or-set_same t (entry_place T from to) (i + 1) 0 there) (omega arith))
        (λ e. rw (get_or-set_other t (entry_place T from to) j (i + 1) 0 (λ x. not_both (eq-eqb _ j (sym x)) e)) (g j))

    put_set : Puts E i T t u
    unfolding LooksMore Looks lookahead_along edge_at
    put_set = record {
      looks = λ es g a b q. by_test (λ (x : ℕ). look_in_table E u T a b ≡ x)
          (λ j.
          let x : from ≡ a = eqb-true from a (and_left (eqb from a) (eqb to b) j) in
          let y : to ≡ b = eqb-true to b (and_right (eqb from a) (eqb to b) j) in
          rw (← x, ← y) same_entry)
          (λ j. other_entry a b q j ∙ g a b q);
      entries = entry_below;
    }

    pub put_one : (v : List ℕ) → v ≡ u → Puts E i T t v
    put_one v e = rw e put_set

-- A pass over the edges from the last to the first: look tells of those from i on.
pub record Looking (E : List ℕ) (n : ℕ) (T : List ℕ) (look : ℕ → ℕ → ℕ) (i : ℕ) : Type 0 where
  pub looks : Looks (tab (edge_at E) i (n - i)) T look

module _ (E : List ℕ) (n : ℕ) (T : List ℕ) (look : ℕ → ℕ → ℕ) where
  pub looking_start : Looks [] T look → Looking E n T look n
  looking_start r = record { looks = rw (tab_none (edge_at E) n n (omega arith)) r }

  module _ (i : ℕ) (p : Looking E n T look i) where
    pub looking_more : 0 < i → i ≤ n → (look' : ℕ → ℕ → ℕ) → LooksMore (edge_at E (i - 1)) T look look' → Looking E n T look' (i - 1)
    unfolding LooksMore
    looking_more h l look' m = record { looks = rw (tab_step (edge_at E) i n h l) (m _ p.looks) }

    pub looking_end : i ≤ 0 → Looks (edges_of n E) T look
    looking_end h = let z : i ≡ 0 = omega arith in rw (tab_whole (edge_at E) i n z) at p.looks

-- The table with a row for each event in hand.
pub record Finding (E : List ℕ) (n : ℕ) (T t₀ : List ℕ) (i : ℕ) (t : List ℕ) : Type 0 where
  pub same : length t ≡ length t₀
  pub looking : Looking E n T (look_in_table E t T) i
  pub entries : (j : ℕ) → get_or t j 0 ≤ n

module _ (E : List ℕ) (n : ℕ) (T t₀ : List ℕ) (c : CanFind E n T t₀) where
  no_entries : Looks [] T (look_in_table E t₀ T)
  unfolding Looks look_in_table lookahead_along entry_lookahead
  no_entries a b p = by_test (λ (x : ℕ). x ≡ 0) (λ _. refl) (λ _. by_test (λ (x : ℕ). x ≡ 0) (λ _. rw (c.empty (entry_place T a b))) (λ _. refl))

  pub finding_start : Finding E n T t₀ n t₀
  finding_start = record { same = refl; looking = looking_start E n T (look_in_table E t₀ T) no_entries; entries = λ j. omega (arith, c.empty j) }

  module _ (i : ℕ) (t : List ℕ) (f : Finding E n T t₀ i t) where
    finding_rows : Rows T (length t)
    finding_rows = rw f.same c.rows

    pub finding_asks : 0 < i → i ≤ n → (6 * (i - 1) + 6 ≤ length E) × (i - 1 < 512) × (get_or E (6 * (i - 1)) 0 < 64) × (get_or E (6 * (i - 1) + 1) 0 < 64) × Rows T (length t)
    finding_asks h l =
        let k = not_unknown E n i h l c.known in
        (omega (arith, c.edge_words), omega (arith, c.few), source_below E (i - 1) k, destination_below E (i - 1) k, finding_rows)

    pub finding_more : 0 < i → i ≤ n → (u : List ℕ) → length u ≡ length t → Puts E (i - 1) T t u → Finding E n T t₀ (i - 1) u
    finding_more h l u e m = record { same = e ∙ f.same; looking = looking_more E n T (look_in_table E t T) i f.looking h l (look_in_table E u T) m.looks; entries = m.entries n (omega arith) f.entries }

    pub finding_end : i ≤ 0 → Found E n T t
    finding_end h = record { looks = looking_end E n T (look_in_table E t T) i f.looking h; entries = f.entries }

-- What each return of a lookup gives, from the process a to b.
module _ (E t T : List ℕ) (c : CanLook E t T) (e : Emission) (a : ℕ) (sa : a ≡ lp_id_of e.emitter) (b : ℕ) (sb : b ≡ lp_id_of e.destination) where
  abbrev Told : SimDuration → Type 0
  Told r = duration_of r ≡ look_in_table E t T (lp_id_of e.emitter) (lp_id_of e.destination)

  told : (x : ℕ) → look_in_table E t T a b ≡ x → (r : SimDuration) → duration_of r ≡ x → Told r
  told x h r d = d ∙ sym h ∙ (λ i. look_in_table E t T (sa i) (sb i))

  pub told_past : 64 ≤ a → (r : SimDuration) → duration_of r ≡ 0 → Told r
  told_past l = told 0 (no_row E t T a b (past_end T a c.rows.place_words l))

  pub told_beyond : 64 ≤ b → (r : SimDuration) → duration_of r ≡ 0 → Told r
  told_beyond l = told 0 (no_column E t T a b l)

  pub told_unplaced : get_or T a 0 ≡ 0 → (r : SimDuration) → duration_of r ≡ 0 → Told r
  told_unplaced z = told 0 (no_row E t T a b z)

  module _ (p : get_or T a 0 ≡ 0 → ⊥) (l : b < 64) where
    pub row_there : (0 < get_or T a 0) × (64 * get_or T a 0 ≤ length t) × (b < 64)
    row_there = (omega arith, c.rows.within a, l)

    module _ (k : ℕ) (i : k ≡ get_or t (entry_place T a b) 0) where
      pub told_none : k ≡ 0 → (r : SimDuration) → duration_of r ≡ 0 → Told r
      unfolding entry_lookahead
      told_none z = told 0 (in_row E t T a b p l ∙ ap (entry_lookahead E) (sym i ∙ z))

      module _ (q : k ≡ 0 → ⊥) where
        pub edge_there : 6 * (k - 1) + 6 ≤ length E
        edge_there = omega (arith, q, i, c.entries (entry_place T a b))

        pub told_edge : (r : SimDuration) → duration_of r ≡ (edge_at E (k - 1)).lookahead → Told r
        unfolding entry_lookahead
        told_edge = let s : k ≡ suc (k - 1) = omega arith in told (edge_at E (k - 1)).lookahead (in_row E t T a b p l ∙ ap (entry_lookahead E) (sym i ∙ s))
