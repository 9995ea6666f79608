-- 39 without a division, and how many calls it lets pass.
use mathlib.Core.Path.{◌≡◌, sym, ◌∙◌}
use Prim.Native.Nat.{ℕ, suc, ◌*◌, ◌/◌, ◌≤◌, ◌<◌}
use native.Mathlib.Omega.{arith}
use native.Mathlib.Nat.{le-div_iff_mul-le}
use lib.Dec.{leb, ltb}
use borrow.Author.Tests.{leb-true, leb-false, ltb-true, ltb-false, le-leb, lt-leb}
use Rattle.rules.proofs.Tests.{by_bool}
use Rattle.plan_file.specs.Plan.{Plan}
use Rattle.plan_rules.specs.Setup.{least_lookahead_of, too_long}
use Rattle.plan_rules.specs.Run.{enough}
use Rattle.plan_rules.specs.Laws.{Limits}

by_floor : (h L : ℕ) → 0 < L → ltb 65536 (h / L) ≡ leb (65537 * L) h
by_floor h L l =
    by_bool (ltb 65536 (h / L))
    (λ t. let f = ltb-true 65536 (h / L) t in t ∙ sym (le-leb (65537 * L) h ((le-div_iff_mul-le l).0 (omega arith))))
    (λ t. let f = ltb-false 65536 (h / L) t in t ∙ sym (lt-leb (65537 * L) h (below f)))
  where
    below : h / L ≤ 65536 → h < 65537 * L
    below f = by_bool (leb (65537 * L) h) (λ u. let g : 65537 ≤ h / L = (le-div_iff_mul-le l).1 (leb-true (65537 * L) h u) in absurd (omega arith)) (λ u. leb-false (65537 * L) h u)

-- One tick more gives at most one more.
pub one_more : (h L : ℕ) → 0 < L → h / L ≤ 65536 → suc h / L ≤ 65537
one_more h L l f =
    by_bool (leb 65538 (suc h / L))
    (λ u.
    let a : 65538 * L ≤ suc h = (le-div_iff_mul-le l).0 (leb-true 65538 (suc h / L) u) in
    let g : 65537 ≤ h / L = (le-div_iff_mul-le l).1 (omega arith) in
    absurd (omega arith))
    (λ u. let g = leb-false 65538 (suc h / L) u in omega arith)

pub limits : (p : Plan) → 0 < least_lookahead_of p → Limits p
unfolding too_long enough
limits p l = record {
  no_division = by_floor p.horizon (least_lookahead_of p) l;
  calls = λ t. omega (arith, one_more p.horizon (least_lookahead_of p) l (ltb-false 65536 (p.horizon / least_lookahead_of p) t));
}
