use native.Mathlib.Omega.{arith}
use lib.ListN.{length-set}
use Rattle.plan_rules.proofs.Texts.{length_hexadecimal}
use Rattle.plan_text.proofs.Lines.{put_tick_halves}
use Rattle.plan_text.proofs.put_tick.Goals as goal

pub put_half-requires : goal.put_half-requires
put_half-requires c =
    let e = c.args in
    let q = c.put_half-middle in
    let l = simp length-set at q.auto.line in
    (omega (arith, q.ensures.place, length_hexadecimal 16 e.t.lo), omega (arith, q.ensures.place, length_hexadecimal 16 e.t.lo))

pub returns : goal.returns
returns c =
    let e = c.args in
    let q = c.put_half-middle in
    let p = c.put_half in
    record {
      prepends = put_tick_halves e.line.now _ _ e.t _ _ _ (omega arith) (omega arith) (omega arith) q.ensures p.ensures;
      end_value = omega (arith, q.ensures.place, p.ensures.place, length_hexadecimal 16 e.t.lo, length_hexadecimal 16 e.t.hi);
    }
