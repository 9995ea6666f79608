-- 7 to 10 and 40: what the tables of build's rows decide, a step at a time.
use Rattle.std.specs.Prelude.{Result, Ok, Err}
use mathlib.Core.Path.{◌≡◌, refl, sym, ap, ◌∙◌}
use mathlib.Core.Bool.{Bool, true, false, ◌||◌}
use mathlib.Core.List.{List, [], ◌∷◌, ◌++◌}
use Prim.Native.Nat.{ℕ, zero, suc, ◌+◌, ◌-◌, ◌*◌, ◌≤◌, ◌<◌}
use native.Mathlib.Numerals.{add-one}
use native.Mathlib.Omega.{arith}
use lib.Dec.{eqb}
use lib.ListN.{length, get_or, take, drop, set, replicate, length-set, drop_of_length-le}
use lib.Seq.{drop-cons, drop-drop, get_or-set_same, get_or-set_other}
use borrow.Author.Tests.{le-leb, lt-leb, eqb-true, eqb-false, eq-eqb, ne_eqb}
use Rattle.rules.specs.Base.{if◌then◌otherwise◌, Maybe, none, some, any, member, sum}
use Rattle.rules.specs.Answers.{Refusal, UnknownTopologySource, UnknownTopologyDestination, SelfLoop, DuplicateNeighbor, InvalidEdgeLookahead}
use Rattle.rules.specs.Rows.{Row, unless}
use Rattle.rules.specs.Build.{Target, targets, destination_rows, topology_rows}
use Rattle.rules.proofs.Tests.{by_bool}
use Rattle.rules.proofs.Lists.{sum_more}
use Rattle.types.specs.declared.LpId.{LpId}
use Rattle.types.specs.Value.{lp_id_of}
use Rattle.words.specs.Words.{tick_at}
use Rattle.build_topology.specs.declared.TopologyRefusal.{TopologyRefusal}
use Rattle.build_topology.specs.declared.TopologyRefusal.TheVariants as fault
use Rattle.build_topology.specs.Lookaheads.{targets_for}
use Rattle.build_topology.specs.Checks.{first_refusal, refusal_of, Unmarked, CheckedRow, RowsPassed}
use Rattle.build_topology.proofs.Beside.{targets_part, part_beside, target_at, targets_at}

-- Two tables one behind the other: the first decides, else the second.
abbrev or_else : Maybe Refusal → Maybe Refusal → Maybe Refusal
or_else none m = m
or_else (some r) m = some r

decided_append : (rs ts : List Row) → first_refusal (rs ++ ts) ≡ or_else (first_refusal rs) (first_refusal ts)
unfolding first_refusal unless if◌then◌otherwise◌
decided_append [] ts = refl
decided_append (r ∷ rs) ts = by_bool r.test (λ e. rw e) (λ e. rw e (decided_append rs ts))

-- What a row's check answers; one that refuses does so whatever comes behind it.
abbrev pub Checked : Type 0
Checked = Result (Unit {0}) TopologyRefusal

refused_first : (m : Maybe Refusal) (r : TopologyRefusal) → or_else (refusal_of (Err r)) m ≡ refusal_of (Err r)
refused_first m (fault.UnknownTopologySource p) = refl
refused_first m (fault.UnknownTopologyDestination p d) = refl
refused_first m (fault.SelfLoop p) = refl
refused_first m (fault.DuplicateNeighbor p d) = refl
refused_first m fault.InvalidEdgeLookahead = refl

-- A row's destinations

-- Those before place i, last first.
abbrev pub met : ℕ → List ℕ → List ℕ
met zero ds = []
met (suc i) ds = get_or ds i 0 ∷ met i ds

module _ (n p : ℕ) (seen : List ℕ) (t : Target) (ts : List Target) where
  abbrev decided : Maybe Refusal
  decided = first_refusal (destination_rows n p seen (t ∷ ts))

  at_unknown : n ≤ t.destination → decided ≡ some (UnknownTopologyDestination p t.destination)
  unfolding first_refusal unless destination_rows if◌then◌otherwise◌
  at_unknown a = rw (le-leb n t.destination a)

  module _ (known : t.destination < n) where
    at_self : eqb t.destination p ≡ true → decided ≡ some (SelfLoop p)
    unfolding first_refusal unless destination_rows if◌then◌otherwise◌
    at_self b = rw (lt-leb n t.destination known, b)

    module _ (b : eqb t.destination p ≡ false) where
      at-twice : member t.destination seen ≡ true → decided ≡ some (DuplicateNeighbor p t.destination)
      unfolding first_refusal unless destination_rows if◌then◌otherwise◌
      at-twice e = rw (lt-leb n t.destination known, b, e)

      module _ (e : member t.destination seen ≡ false) where
        at-nought : eqb t.lookahead 0 ≡ true → decided ≡ some InvalidEdgeLookahead
        unfolding first_refusal unless destination_rows if◌then◌otherwise◌
        at-nought o = rw (lt-leb n t.destination known, b, e, o)

        at_new : eqb t.lookahead 0 ≡ false → decided ≡ first_refusal (destination_rows n p (t.destination ∷ seen) ts)
        unfolding first_refusal unless destination_rows if◌then◌otherwise◌
        at_new o = rw (lt-leb n t.destination known, b, e, o)

-- A stamp put at d
stamp_seen : (marks : List ℕ) (d stamp : ℕ) → d < length marks → (x : ℕ) → eqb (get_or (set marks d stamp) x 0) stamp ≡ eqb x d || eqb (get_or marks x 0) stamp
stamp_seen marks d stamp h x =
    by_bool (eqb x d)
    (λ e. rw e (eq-eqb (get_or (set marks d stamp) x 0) stamp (rw (eqb-true x d e) (get_or-set_same marks d stamp 0 h))))
    (λ e. rw (e, get_or-set_other marks d x stamp 0 (eqb-false x d e)))

stamp_low : (marks : List ℕ) (d stamp : ℕ) → d < length marks → ((x : ℕ) → get_or marks x 0 ≤ stamp) → (x : ℕ) → get_or (set marks d stamp) x 0 ≤ stamp
stamp_low marks d stamp h low x =
    by_bool (eqb x d)
    (λ e. rw (eqb-true x d e, get_or-set_same marks d stamp 0 h) (omega arith))
    (λ e. rw (get_or-set_other marks d x stamp 0 (eqb-false x d e)) (low x))

-- The destinations before place i passed, and exactly they have the stamp.
pub record Stamped (n p : ℕ) (ds ws : List ℕ) (stamp : ℕ) (marks : List ℕ) (i : ℕ) : Type 0 where
  pub room : n ≤ length marks
  pub left : first_refusal (destination_rows n p [] (targets_for ds ws)) ≡ first_refusal (destination_rows n p (met i ds) (targets_for (drop i ds) (drop (2 * i) ws)))
  pub seen : (x : ℕ) → eqb (get_or marks x 0) stamp ≡ member x (met i ds)
  pub low : (x : ℕ) → get_or marks x 0 ≤ stamp

module _ (n : ℕ) (source : LpId) (ds ws : List ℕ) (stamp : ℕ) (marks : List ℕ) where
  abbrev row_checked : Checked → Type 0
  row_checked r = CheckedRow n (lp_id_of source) (targets_for ds ws) marks stamp r

  pub stamped_none : Unmarked n marks stamp → Stamped n (lp_id_of source) ds ws stamp marks 0
  unfolding member any
  stamped_none f = record { room = f.room; left = refl; seen = λ x. ne_eqb (get_or marks x 0) stamp (λ e. omega (arith, f.unmarked x)); low = λ x. omega (arith, f.unmarked x) }

  module _ (w : length ws ≡ 2 * length ds) (i : ℕ) (s : Stamped n (lp_id_of source) ds ws stamp marks i) where
    pub stamped_all : length ds ≤ i → row_checked (Ok tt)
    unfolding first_refusal unless destination_rows targets
    stamped_all h = record { answer = sym (s.left ∙ rw (drop_of_length-le ds h)); marked = s.low }

    -- The destination at place i, as the program has it: an id, and d its word.
    module _ (h : i < length ds) (d : ℕ) (e : d ≡ get_or ds i 0) where
      abbrev destination : LpId
      destination = record { 0 = get_or ds i 0 }

      abbrev after : List Target
      after = targets_for (drop (i + 1) ds) (drop (2 * (i + 1)) ws)

      opened : first_refusal (destination_rows n (lp_id_of source) [] (targets_for ds ws)) ≡ first_refusal (destination_rows n (lp_id_of source) (met i ds) (target_at ds ws i ∷ after))
      opened = s.left ∙ ap (λ (l : List Target). first_refusal (destination_rows n (lp_id_of source) (met i ds) l)) (targets_at ds ws i w h)

      pub stamped_unknown : n ≤ d → row_checked (Err (fault.UnknownTopologyDestination source destination))
      stamped_unknown a = record { answer = sym (opened ∙ at_unknown n _ _ _ _ (rw e at a)); marked = s.low }

      module _ (a : d < n) (b : Bool) (q : b ≡ eqb (get_or ds i 0) (lp_id_of source)) where
        pub stamped_self : b ≡ true → row_checked (Err (fault.SelfLoop source))
        stamped_self t = record { answer = sym (opened ∙ at_self n _ _ _ _ (rw e at a) (sym q ∙ t)); marked = s.low }

        module _ (t : b ≡ false) where
          pub stamped_twice : get_or marks d 0 ≡ stamp → row_checked (Err (fault.DuplicateNeighbor source destination))
          stamped_twice m = record { answer = sym (opened ∙ at-twice n _ _ _ _ (rw e at a) (sym q ∙ t) (rw e at (sym (s.seen d) ∙ eq-eqb _ _ m))); marked = s.low }

          -- The lookahead at place i, and whether it is 0.
          module _ (m : get_or marks d 0 ≡ stamp → ⊥) (l : ℕ) (f : l ≡ tick_at ws (2 * i)) (z : Bool) (g : z ≡ eqb l 0) where
            first-met : member (get_or ds i 0) (met i ds) ≡ false
            first-met = rw e at (sym (s.seen d) ∙ ne_eqb _ _ m)

            pub stamped_nought : z ≡ true → row_checked (Err fault.InvalidEdgeLookahead)
            stamped_nought o = record { answer = sym (opened ∙ at-nought n _ _ _ _ (rw e at a) (sym q ∙ t) first-met (rw f at (sym g ∙ o))); marked = s.low }

            pub stamped_new : z ≡ false → Stamped n (lp_id_of source) ds ws stamp (set marks d stamp) (i + 1)
            unfolding member any
            stamped_new o = record {
              room = rw length-set s.room;
              left = opened ∙ at_new n _ _ _ _ (rw e at a) (sym q ∙ t) first-met (rw f at (sym g ∙ o)) ∙ met-more;
              seen = λ x. rw add-one (stamp_seen marks d stamp (omega (arith, s.room)) x ∙ rw (e, s.seen x));
              low = stamp_low marks d stamp (omega (arith, s.room)) s.low;
            }
              where
                met-more : first_refusal (destination_rows n (lp_id_of source) (get_or ds i 0 ∷ met i ds) after) ≡ first_refusal (destination_rows n (lp_id_of source) (met (i + 1) ds) after)
                met-more = ap (λ (l : List ℕ). first_refusal (destination_rows n (lp_id_of source) l after)) (rw add-one)

-- The rows

module _ (n p k : ℕ) (sources counts : List ℕ) (ts : List Target) where
  row_unknown : n ≤ p → first_refusal (topology_rows n (p ∷ sources) (k ∷ counts) ts) ≡ some (UnknownTopologySource p)
  unfolding first_refusal unless topology_rows if◌then◌otherwise◌
  row_unknown a = rw (le-leb n p a)

  row_known : p < n → first_refusal (topology_rows n (p ∷ sources) (k ∷ counts) ts) ≡ first_refusal (destination_rows n p [] (take k ts) ++ topology_rows n sources counts (drop k ts))
  unfolding first_refusal unless topology_rows if◌then◌otherwise◌
  row_known a = rw (lt-leb n p a)

  row_else : p < n → first_refusal (topology_rows n (p ∷ sources) (k ∷ counts) ts) ≡ or_else (first_refusal (destination_rows n p [] (take k ts))) (first_refusal (topology_rows n sources counts (drop k ts)))
  row_else a = row_known a ∙ decided_append (destination_rows n p [] (take k ts)) (topology_rows n sources counts (drop k ts))

row_none : (n : ℕ) (counts : List ℕ) (ts : List Target) → first_refusal (topology_rows n [] counts ts) ≡ none
unfolding first_refusal unless topology_rows
row_none n counts ts = refl

-- The rows before place i passed, with the targets before `at`, and no mark is above i.
pub record Turned (n : ℕ) (sources counts ds ws : List ℕ) (marks : List ℕ) (at i : ℕ) : Type 0 where
  pub room : length marks ≡ 64
  pub rest : at + sum (drop i counts) ≡ length ds
  pub left : first_refusal (topology_rows n sources counts (targets_for ds ws)) ≡ first_refusal (topology_rows n (drop i sources) (drop i counts) (drop at (targets_for ds ws)))
  pub low : (x : ℕ) → get_or marks x 0 ≤ i

module _ (n : ℕ) (sources counts ds ws : List ℕ) where
  pub turned_none : RowsPassed n sources counts ds ws → Turned n sources counts ds ws (replicate 64 0) 0 0
  turned_none s = record { room = refl; rest = omega (arith, s.used_up); left = refl; low = noughts 64 }
    where
      noughts : (k x : ℕ) → get_or (replicate k 0) x 0 ≤ 0
      noughts zero x = omega arith
      noughts (suc k) zero = omega arith
      noughts (suc k) (suc x) = noughts k x

  abbrev all_decided : Maybe Refusal
  all_decided = first_refusal (topology_rows n sources counts (targets_for ds ws))

  module _ (s : RowsPassed n sources counts ds ws) (marks : List ℕ) (at i : ℕ) (t : Turned n sources counts ds ws marks at i) where
    pub turned_all : length sources ≤ i → none ≡ all_decided
    turned_all h = sym (t.left ∙ rw (drop_of_length-le sources h) (row_none n _ _))

    module _ (h : i < length sources) where
      opened-row : all_decided ≡ first_refusal (topology_rows n (get_or sources i 0 ∷ drop (suc i) sources) (get_or counts i 0 ∷ drop (suc i) counts) (drop at (targets_for ds ws)))
      opened-row = t.left ∙ rw (drop-cons sources i 0 h, drop-cons counts i 0 (omega (arith, s.paired)))

      pub turned_fits : at + get_or counts i 0 ≤ length ds
      turned_fits = omega (arith, t.rest, sum_more counts i (omega (arith, s.paired)))

      -- What the check of the row asks of its parts.
      pub turned_ready : (end : ℕ) → end ≡ at + get_or counts i 0 → Unmarked n marks (i + 1) × (length (take (2 * end - 2 * at) (drop (2 * at) ws)) ≡ 2 * length (take (end - at) (drop at ds)))
      turned_ready end f =
          (record { room = omega (arith, s.few, t.room); unmarked = λ x. omega (arith, t.low x) }, part_beside ds ws s.beside at end (omega arith) (omega (arith, turned_fits)))

      module _ (p : ℕ) (e : p ≡ get_or sources i 0) where
        pub turned_unknown : n ≤ p → some (UnknownTopologySource (get_or sources i 0)) ≡ all_decided
        turned_unknown a = sym (opened-row ∙ row_unknown n _ _ _ _ _ (rw e at a))

        -- What the row decides, and the rows after it.
        module _ (a : p < n) (end : ℕ) (f : end ≡ at + get_or counts i 0) (after : List ℕ) (r : Checked) (j : CheckedRow n (get_or sources i 0) (targets_for (take (end - at) (drop at ds)) (take (2 * end - 2 * at) (drop (2 * at) ws))) after (i + 1) r) where
          turned-else : all_decided ≡ or_else (refusal_of r) (first_refusal (topology_rows n (drop (suc i) sources) (drop (suc i) counts) (drop end (targets_for ds ws))))
          turned-else =
              let g : end - at ≡ get_or counts i 0 = omega arith in
              let d : drop (get_or counts i 0) (drop at (targets_for ds ws)) ≡ drop end (targets_for ds ws) = drop-drop (get_or counts i 0) at (targets_for ds ws) ∙ rw (← f) in
              rw (j.answer, ← targets_part ds ws s.beside at end (omega arith), g, ← d) (opened-row ∙ row_else n _ _ _ _ _ (rw e at a))

          pub turned_refused : (why : TopologyRefusal) → r ≡ Err why → refusal_of (Err why) ≡ all_decided
          turned_refused why v = sym (turned-else ∙ rw v (refused_first _ why))

          pub turned_sound : r ≡ Ok tt → length after ≡ length marks → Turned n sources counts ds ws after end (i + 1)
          turned_sound v w = record {
            room = w ∙ t.room;
            rest = omega (arith, t.rest, sum_more counts i (omega (arith, s.paired)));
            left = rw add-one (turned-else ∙ rw v);
            low = j.marked;
          }
