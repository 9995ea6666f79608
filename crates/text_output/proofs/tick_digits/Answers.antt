use Prim.Native.Nat.{◌≤◌}
use mathlib.Core.Path.{◌≡◌}
use native.Mathlib.Omega.{arith}
use lib.ListN.{length}
use lib.Seq.{length-take-le}
use Rattle.text_output.proofs.Hex.{most_digits, short, long}
use borrow.Author.Rules.{rules}
use Rattle.text_output.proofs.tick_digits.Goals as goal

pub returns-then-t-eq0 : goal.returns-then-t-eq0
returns-then-t-eq0 c =
    let e = c.args in
    let q = c.hex-k in
    let p = c.copy in
    let l : length e.out.now ≡ 32 = search rules in
    let m : q.result ≤ 16 = most_digits e.t.lo q.result 1 (omega arith) (omega arith) q.ensures.len in
    let g = length-take-le q.result q.new.out q.ensures.in_bounds.0 in
    let told = short e.t q.result p.result q.new.out e.out.now p.new.out (omega arith) q.ensures.in_bounds.0 q.ensures.len q.ensures.digits p.ensures.value p.ensures.out_after p.auto.out (omega arith) in
    record { prefix_len = told.0; digit_count = told.1.0; out_after = told.1.1 }

pub returns : goal.returns
returns c =
    let e = c.args in
    let q = c.hex-k-2 in
    let p = c.hex in
    let j = c.join in
    let l : length e.out.now ≡ 32 = search rules in
    let m : q.result ≤ 16 = most_digits e.t.hi q.result 1 (omega arith) (omega arith) q.ensures.len in
    let g = length-take-le q.result q.new.out q.ensures.in_bounds.0 in
    let k = j.auto.out in
    let told = long e.t q.result p.result j.result q.new.out p.new.out j.new.out (omega arith) (omega arith) q.ensures.in_bounds.0 q.ensures.len q.ensures.digits p.ensures.len p.ensures.digits j.ensures.value j.ensures.out_after (omega arith) in
    record { prefix_len = told.0; digit_count = told.1.0; out_after = told.1.1 }
