-- The edges of a state that 11 let pass: their words are there, their ends have places in a table, and their lookaheads are above 0.
use mathlib.Core.Path.{◌≡◌}
use mathlib.Core.Bool.{false}
use mathlib.Core.List.{List}
use Prim.Native.Nat.{ℕ, ◌*◌, ◌≤◌}
use native.Mathlib.Omega.{arith}
use lib.Dec.{leb}
use lib.ListN.{length}
use borrow.Author.Tests.{lt-leb, ne_eqb}
use Rattle.records.specs.Records.{edges_of}
use Rattle.rules.specs.Base.{any}
use Rattle.rules.specs.State.{Edge}
use Rattle.rules.specs.Foreign.{without_lookahead, unknown_id_edge}
use Rattle.rules.proofs.Tests.{or_both}
use Rattle.rules.proofs.Lists.{all_map, none_any}
use Rattle.rules.proofs.Shape.{Joined, Ahead, shaped}
use Rattle.state.specs.declared.Header.{Header}
use Rattle.state.specs.View.{view}
use Rattle.state.specs.ValidArrays.{ValidArrays}
use Rattle.state.proofs.Facts.{few_processes, few_edges}

known : (n : ℕ) → n ≤ 64 → (e : Edge) → Joined n e → unknown_id_edge 64 e ≡ false
known n l e j = or_both (leb 64 e.source) (leb 64 e.destination) (lt-leb 64 e.source (omega (arith, j.source))) (lt-leb 64 e.destination (omega (arith, j.destination)))

-- With the edges of such a state in E.
module _ (h : Header) (E Q Z B : List ℕ) (l : ValidArrays h E Q Z B) where
  pub edges_there : 6 * h.edges ≤ length E
  edges_there = omega (arith, few_edges h E Q Z B l.passes, l.edge_words)

  pub edges_few : h.edges ≤ 512
  edges_few = few_edges h E Q Z B l.passes

  pub edges_known : any (unknown_id_edge 64) (edges_of h.edges E) ≡ false
  edges_known = none_any (unknown_id_edge 64) _ (all_map (Joined h.n) (λ (e : Edge). unknown_id_edge 64 e ≡ false) (known h.n (few_processes h E Q Z B l.passes)) (edges_of h.edges E) (shaped (view h E Q Z B) l.passes).wired.joined)

  pub edges_ahead : any without_lookahead (edges_of h.edges E) ≡ false
  edges_ahead = none_any without_lookahead _ (all_map Ahead (λ (e : Edge). without_lookahead e ≡ false) (λ e a. ne_eqb e.lookahead 0 (λ z. omega arith)) (edges_of h.edges E) (shaped (view h E Q Z B) l.passes).wired.ahead)
