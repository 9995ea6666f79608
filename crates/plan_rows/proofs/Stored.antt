-- The lookaheads of a file's edges, stored as a table of two words each.
use mathlib.Core.Path.{◌≡◌, refl, sym, ap, ◌∙◌}
use mathlib.Core.Logic.{⊎_elim}
use mathlib.Core.List.{List, [], ◌∷◌, ◌++◌, map}
use Prim.Native.Nat.{ℕ, zero, suc, ◌+◌, ◌*◌, ◌≤◌, ◌<◌}
use native.Mathlib.Omega.{arith}
use native.Mathlib.Numerals.{add-one}
use lib.ListN.{length, take, drop}
use lib.Seq.{drop-drop}
use Rattle.types.specs.declared.SimTime.{SimTime}
use Rattle.types.specs.Value.{ticks_of}
use Rattle.types.proofs.Halves.{lt_or_ge}
use Rattle.words.specs.Words.{tab, tick_of, put_tick}
use Rattle.words.proofs.Tab.{tab_cong, tab_push}
use Rattle.words.proofs.Ticks.{table_same, table_other}
use Rattle.bits.specs.Bits.{value_of}
use Rattle.bits.specs.Bytes.{stream}
use Rattle.plan_file.specs.Plan.{PlanEdge}
use Rattle.plan_rows.specs.Rows.{ReadsLookaheads}
use Rattle.plan_rows.proofs.Edges.{edge_of, edges_from, edges_at, edges_more, map_push, edges_are}

-- The lookahead of edge i.
pub lookahead_at : List ℕ → ℕ → ℕ
lookahead_at s i = value_of (take 128 (drop (349 + 140 * i) (stream s)))

abbrev ahead : PlanEdge → ℕ
ahead e = e.lookahead

ahead_here : (s : List ℕ) (i : ℕ) → ahead (edge_of (drop (140 * i) (drop 337 (stream s)))) ≡ lookahead_at s i
unfolding edge_of lookahead_at
ahead_here s i =
    let e : 337 + (140 * i + 12) ≡ 349 + 140 * i = omega arith in
    rw (drop-drop 12 (140 * i) (drop 337 (stream s)), drop-drop (140 * i + 12) 337 (stream s), e)

all_ahead : (s : List ℕ) (k : ℕ) → map ahead (edges_at s k) ≡ tab (lookahead_at s) 0 k
unfolding edges_from tab
all_ahead s zero = refl
all_ahead s (suc k) =
    let p : tab (lookahead_at s) 0 (suc k) ≡ tab (lookahead_at s) 0 k ++ (lookahead_at s k ∷ []) = rw add-one at (tab_push (lookahead_at s) k) in
    ap (map ahead) (edges_more k (drop 337 (stream s)))
    ∙ map_push ahead (edges_at s k) (edge_of (drop (140 * k) (drop 337 (stream s))))
    ∙ (λ j. all_ahead s k j ++ (ahead_here s k j ∷ []))
    ∙ sym p

-- The first i are stored.
pub record Stored (s : List ℕ) (i : ℕ) (w : List ℕ) : Type 0 where
  pub there : (k : ℕ) → k < i → tick_of w k ≡ lookahead_at s k

pub stored_more : (s : List ℕ) (i : ℕ) (w u : List ℕ) (t : SimTime) (v : ℕ) → 2 * i + 2 ≤ length w → ticks_of t ≡ v → v ≡ value_of (take 128 (drop (349 + 140 * i) (stream s))) → u ≡ put_tick w (2 * i) t → Stored s i w → Stored s (i + 1) u
unfolding lookahead_at
stored_more s i w u t v room a b e p = record {
  there = λ k h. ap (λ (x : List ℕ). tick_of x k) e
      ∙ ⊎_elim
      (λ (l : k < i). table_other w i k t (λ x. omega arith) ∙ p.there k l)
      (λ (l : i ≤ k). let x : k ≡ i = omega arith in rw x (table_same w i t room ∙ a ∙ b))
      (lt_or_ge k i);
}

pub stored_end : (s : List ℕ) (k : ℕ) (w : List ℕ) → 337 + 140 * k ≤ length s * 8 → Stored s k w → ReadsLookaheads s k w
stored_end s k w room p = record {
  read = λ es behind e.
      let g : es ≡ edges_at s k = edges_are s k room es behind e in
      tab_cong (tick_of w) (lookahead_at s) 0 k (λ j a b. p.there j (omega arith)) ∙ sym (all_ahead s k) ∙ ap (map ahead) (sym g);
}
