-- What a call leaves may be lent again: every call keeps what 11 asks.
use mathlib.Core.Path.{◌≡◌, sym, ap, subst, ◌∙◌}
use mathlib.Core.List.{List}
use Prim.Native.Nat.{ℕ}
use lib.ListN.{length}
use Rattle.rules.specs.Rows.{Out, out}
use Rattle.rules.specs.Answers.{Answer}
use Rattle.rules.specs.Calls.{Call, rule}
use Rattle.rules.proofs.Shape.{Shaped, shaped, passes_11}
use Rattle.rules.proofs.ShapeCalls.{Shapes, shape_kept}
use Rattle.state.specs.declared.Header.{Header}
use Rattle.state.specs.declared.Counters.{Counters}
use Rattle.state.specs.declared.CoreResult.{CoreResult}
use Rattle.state.specs.View.{view, counters_of}
use Rattle.state.specs.ValidArrays.{ValidArrays}

pub left_lent : (k : Call) (h : Header) (c : Counters) (E Q Z B : List ℕ) (r : CoreResult) (E' Q' Z' B' : List ℕ) (a : Answer) → ValidArrays h E Q Z B → length E' ≡ length E → length Q' ≡ length Q → length Z' ≡ length Z → length B' ≡ length B
    → out a (view r.head E' Q' Z' B') (counters_of r.counters) ≡ rule (view h E Q Z B) (counters_of c) k → ValidArrays r.head E' Q' Z' B'
unfolding Shapes
left_lent k h c E Q Z B r E' Q' Z' B' a l e q z b g =
    let s = shape_kept (view h E Q Z B) (counters_of c) k (shaped (view h E Q Z B) l.passes) in
    record {
      edge_words = e ∙ l.edge_words;
      pending_words = q ∙ l.pending_words;
      process_words = z ∙ l.process_words;
      batch_words = b ∙ l.batch_words;
      passes = passes_11 (view r.head E' Q' Z' B') (subst Shaped (sym (ap (λ (o : Out). o.after) g)) s);
    }
