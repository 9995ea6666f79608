-- The header and the edges of a file that is let pass.
use Prim.Native.Nat.{ℕ, ◌*◌, ◌≤◌}
use mathlib.Core.Path.{◌≡◌, sym, ◌∙◌}
use mathlib.Core.List.{List}
use lib.ListN.{length, take, drop}
use Rattle.types.specs.Value.{ticks_of, duration_of}
use Rattle.bits.specs.Bits.{value_of}
use Rattle.bits.specs.Bytes.{stream}
use Rattle.bits.proofs.Streams.{length_stream}
use Rattle.plan_file.specs.Plan.{Plan}
use Rattle.plan_file.specs.File.{Answer.contents, decode}
use Rattle.plan_file.proofs.Placing.{PlanParts, plan_parts}
use Rattle.plan_file.proofs.Numbers.{decoded}
use Rattle.plan_reader.specs.declared.PlanHeader.{PlanHeader}
use Rattle.plan_reader.specs.Read.{HeaderRead}

module _ (s : List ℕ) (p : Plan) (e : decode s ≡ contents p) where
  abbrev g : PlanParts (stream s) p (decoded s p e).behind
  g = plan_parts (stream s) p _ (decoded s p e).reads

  pub header_room : 327 ≤ length s * 8
  header_room = rw length_stream at g.room

pub header_read : (s : List ℕ) (r : PlanHeader) → r.n ≡ value_of (take 7 (stream s)) → duration_of r.lookahead ≡ value_of (take 128 (drop 7 (stream s)))
    → ticks_of r.horizon ≡ value_of (take 128 (drop 135 (stream s))) → r.budget ≡ value_of (take 64 (drop 263 (stream s))) → HeaderRead s r
header_read s r n l h u p e =
    let g = plan_parts (stream s) p _ (decoded s p e).reads in
    record { n = n ∙ sym g.n; lookahead = l ∙ sym g.lookahead; horizon = h ∙ sym g.horizon; budget = u ∙ sym g.budget }
