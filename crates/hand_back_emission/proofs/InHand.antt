-- The events in hand of a state that 11 let pass: their words are there, and their processes have places in a table.
use mathlib.Core.List.{List}
use Prim.Native.Nat.{ℕ, ◌*◌, ◌≤◌}
use native.Mathlib.Omega.{arith}
use lib.ListN.{length}
use Rattle.records.specs.Records.{Owners}
use Rattle.state.specs.declared.Header.{Header}
use Rattle.state.specs.ValidArrays.{ValidArrays}
use Rattle.state.proofs.Facts.{few_batch, batch_owners}

pub findable : (h : Header) (E Q Z B : List ℕ) → ValidArrays h E Q Z B → (8 * h.batch ≤ length B) × Owners h.batch B
unfolding Owners
findable h E Q Z B l = (omega (arith, few_batch h E Q Z B l.passes, l.batch_words), batch_owners h E Q Z B l.passes)
