use mathlib.Core.Path.{◌≡◌}
use lib.ListN.{length}
use native.Mathlib.Omega.{arith}
use Rattle.text_output.proofs.Behind.{join_both}
use borrow.Author.Rules.{rules}
use Rattle.text_output.proofs.join.Goals as goal

pub returns : goal.returns
returns c =
    let e = c.args in
    let p = c.copy-at in
    let q = c.copy in
    let s : length e.second.now ≡ 16 = search rules in
    let both = join_both e.first.now e.second.now e.out.now p.new.out q.new.out p.result q.result s (omega arith) p.auto.out p.ensures.value p.ensures.out_after q.ensures.value q.ensures.out_after in
    record { value = both.0; out_after = both.1 }
