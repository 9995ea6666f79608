-- Edges written one behind the other.
use mathlib.Core.Path.{◌≡◌, refl, sym, ap, ◌∙◌}
use mathlib.Core.List.{List, [], ◌∷◌, ◌++◌, map, map-append, append-nil, append_assoc}
use Prim.Native.Nat.{ℕ, ◌+◌, ◌-◌, ◌*◌, ◌≤◌, ◌<◌}
use native.Mathlib.Nat.{add-zero}
use native.Mathlib.Omega.{arith}
use lib.ListN.{length, get_or, set, take, drop, length-set, length-append, length-map}
use lib.Seq.{take_all, drop-drop, drop-set-lt, get_or-set_same, get_or-set_other, length-take-le}
use Rattle.types.specs.declared.SimDuration.{SimDuration}
use Rattle.types.specs.declared.SimTime.{SimTime}
use Rattle.types.specs.Value.{ticks_of, duration_of}
use Rattle.words.specs.Words.{tick_at, put_tick}
use Rattle.words.proofs.Tab.{tab_push}
use Rattle.words.proofs.Ticks.{length_put, tick_same, tick_other, word_other}
use Rattle.records.specs.Records.{edge_at, edges_of}
use Rattle.records.proofs.Stored.{edges_cong}
use Rattle.rules.specs.Build.{edge_to}
use Rattle.rules.specs.State.{Edge}
use Rattle.build_topology.specs.Lookaheads.{targets_for}
use Rattle.build_topology.proofs.Beside.{length_targets, targets_push}
use Rattle.build_edges.specs.Written.{new_edge, WritesRow}

-- What is untouched from n on is so from m on.
pub further : (n m : ℕ) (u w : List ℕ) → n ≤ m → drop n u ≡ drop n w → drop m u ≡ drop m w
further n m u w h e =
    let s : n + (m - n) ≡ m = omega arith in
    rw s at (sym (drop-drop (m - n) n u) ∙ ap (λ (l : List ℕ). drop (m - n) l) e ∙ drop-drop (m - n) n w)

-- One edge: its ends and its lookahead, a word each, and its bound.
module _ (w : List ℕ) (i s d : ℕ) (l : SimDuration) (t : SimTime) (h : 6 * (i + 1) ≤ length w) where
  abbrev ends : List ℕ
  ends = set (set w (6 * i) s) (6 * i + 1) d

  abbrev put : List ℕ
  put = put_tick (set (set ends (6 * i + 2) l.hi) (6 * i + 3) l.lo) (6 * i + 4) t

  -- The lookahead as the tick of its two words.
  abbrev look : SimTime
  look = record { hi = l.hi; lo = l.lo }

  abbrev looked : List ℕ
  looked = put_tick ends (6 * i + 2) look

  abbrev put² : List ℕ
  put² = put_tick looked (6 * i + 4) t

  same : put ≡ put²
  unfolding put_tick
  same = let e : 6 * i + 2 + 1 ≡ 6 * i + 3 = omega arith in rw e

  other : (k : ℕ) → (k ≡ 6 * i + 2 → ⊥) → (k ≡ 6 * i + 3 → ⊥) → (k ≡ 6 * i + 4 → ⊥) → (k ≡ 6 * i + 5 → ⊥) → get_or put² k 0 ≡ get_or ends k 0
  other k p q r v = word_other looked (6 * i + 4) t k r (λ e. v (omega arith)) ∙ word_other ends (6 * i + 2) look k p (λ e. q (omega arith))

  ahead : (k : ℕ) → k < 6 * i → get_or put² k 0 ≡ get_or w k 0
  ahead k o =
      other k (λ e. omega arith) (λ e. omega arith) (λ e. omega arith) (λ e. omega arith)
      ∙ get_or-set_other (set w (6 * i) s) (6 * i + 1) k d 0 (λ e. omega arith) ∙ get_or-set_other w (6 * i) k s 0 (λ e. omega arith)

  here : ticks_of t ≡ duration_of l → edge_at put² i ≡ new_edge s d (duration_of l)
  unfolding edge_at
  here m =
      let a : 6 * i < length w = omega arith in
      let b : 6 * i + 1 < length (set w (6 * i) s) = simp length-set (omega arith) in
      let c : 6 * i + 2 + 2 ≤ length ends = simp length-set (omega arith) in
      let f : 6 * i + 4 + 2 ≤ length looked = rw length_put (simp length-set (omega arith)) in
      λ k. record {
        source = (other (6 * i) (λ e. omega arith) (λ e. omega arith) (λ e. omega arith) (λ e. omega arith) ∙ get_or-set_other (set w (6 * i) s) (6 * i + 1) (6 * i) d 0 (λ e. omega arith) ∙ get_or-set_same w (6 * i) s 0 a) k;
        destination = (other (6 * i + 1) (λ e. omega arith) (λ e. omega arith) (λ e. omega arith) (λ e. omega arith) ∙ get_or-set_same (set w (6 * i) s) (6 * i + 1) d 0 b) k;
        lookahead = (tick_other looked (6 * i + 4) t (6 * i + 2) (λ e. omega arith) (λ e. omega arith) (λ e. omega arith) ∙ tick_same ends (6 * i + 2) look c) k;
        bound = (tick_same looked (6 * i + 4) t f ∙ m) k;
      }

  past : drop (6 * (i + 1)) put² ≡ drop (6 * (i + 1)) w
  unfolding put_tick
  past =
      drop-set-lt (6 * (i + 1)) _ (6 * i + 4 + 1) _ (omega arith) ∙ drop-set-lt (6 * (i + 1)) _ (6 * i + 4) _ (omega arith)
      ∙ drop-set-lt (6 * (i + 1)) _ (6 * i + 2 + 1) _ (omega arith) ∙ drop-set-lt (6 * (i + 1)) _ (6 * i + 2) _ (omega arith)
      ∙ drop-set-lt (6 * (i + 1)) _ (6 * i + 1) _ (omega arith) ∙ drop-set-lt (6 * (i + 1)) _ (6 * i) _ (omega arith)

  pub written_one : (x y : ℕ) (u : List ℕ) → x ≡ s → y ≡ d → ticks_of t ≡ duration_of l → u ≡ put_tick (set (set (set (set w (6 * i) x) (6 * i + 1) y) (6 * i + 2) l.hi) (6 * i + 3) l.lo) (6 * i + 4) t → WritesRow i (new_edge s d (duration_of l) ∷ []) w u
  written_one x y u p q m e = rw (e, p, q, same) (record { edges = tab_push (edge_at put²) i ∙ rw (edges_cong i put² w ahead, here m); beyond = past })

-- None, and more behind some.
pub written_none : (at : ℕ) (w : List ℕ) → WritesRow at [] w w
written_none at w = record { edges = rw (add-zero, append-nil); beyond = refl }

pub written_more : (at : ℕ) (es fs : List Edge) (w u v : List ℕ) → WritesRow at es w u → WritesRow (at + length es) fs u v → WritesRow at (es ++ fs) w v
written_more at es fs w u v a b =
    let n : at + length (es ++ fs) ≡ at + length es + length fs = rw (length-append es fs) (omega arith) in
    record {
      edges = rw n (b.edges ∙ rw a.edges (append_assoc (edges_of at w) es fs));
      beyond = rw n (b.beyond ∙ further (6 * (at + length es)) (6 * (at + length es + length fs)) u w (omega arith) a.beyond);
    }

-- A row's edges: those of its first i targets are written.
module _ (p at : ℕ) (ds ws : List ℕ) (beside : length ws ≡ 2 * length ds) (i : ℕ) where
  abbrev Written : ℕ → List ℕ → List ℕ → Type 0
  Written k w₀ w = WritesRow at (map (edge_to p) (take k (targets_for ds ws))) w₀ w

  pub row_more : (w₀ w u : List ℕ) (l : ℕ) → i < length ds → l ≡ tick_at ws (2 * i) → Written i w₀ w → WritesRow (at + i) (new_edge p (get_or ds i 0) l ∷ []) w u → Written (i + 1) w₀ u
  row_more w₀ w u l h e a b =
      let n : length (map (edge_to p) (take i (targets_for ds ws))) ≡ i = length-map (take i (targets_for ds ws)) (edge_to p) ∙ length-take-le i (targets_for ds ws) (rw (length_targets ds ws beside) (omega arith)) in
      let m : map (edge_to p) (take (i + 1) (targets_for ds ws)) ≡ map (edge_to p) (take i (targets_for ds ws)) ++ (new_edge p (get_or ds i 0) l ∷ []) = rw (e, targets_push ds ws i beside h) (map-append (edge_to p) (take i (targets_for ds ws)) _) in
      rw m (written_more at (map (edge_to p) (take i (targets_for ds ws))) _ w₀ w u a (rw n b))

  pub row_end : (w₀ w : List ℕ) → length ds ≤ i → Written i w₀ w → WritesRow at (map (edge_to p) (targets_for ds ws)) w₀ w
  row_end w₀ w h a = rw (take_all i (targets_for ds ws) (rw (length_targets ds ws beside) h)) at a
