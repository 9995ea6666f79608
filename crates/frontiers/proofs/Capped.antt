-- What a bound rises to, by whether the sum fits. Over any B first: 2 ^ 128 has more digits than omega takes.
use Rattle.std.specs.Prelude.{Some, None}
use mathlib.Core.Path.{◌≡◌, refl, ap, ◌∙◌}
use Prim.Native.Nat.{ℕ, ◌+◌, ◌-◌, ◌^◌, ◌≤◌, ◌<◌, min}
use native.Mathlib.Omega.{arith}
use lib.Dec.{ltb}
use borrow.Author.Tests.{ltb-true, ltb-false}
use Rattle.types.specs.declared.SimTime.{SimTime}
use Rattle.types.specs.Value.{halves, ticks_of, IsSum}
use Rattle.types.proofs.Halves.{halves_fit}
use Rattle.rules.specs.Base.{if◌then◌otherwise◌}
use Rattle.rules.proofs.Tests.{by_test}
use Rattle.frontiers.specs.Tables.{capped}

fits : (B n H : ℕ) → n < B → min H n ≡ (if ltb (B - 1) n then H otherwise min H n)
fits B n H h = by_test (λ (x : ℕ). min H n ≡ x) (λ e. absurd (omega (arith, ltb-true (B - 1) n e))) (λ e. refl)

over : (B n H : ℕ) → 0 < B → B ≤ n → H ≡ (if ltb (B - 1) n then H otherwise min H n)
over B n H p h = by_test (λ (x : ℕ). H ≡ x) (λ e. refl) (λ e. absurd (omega (arith, ltb-false (B - 1) n e)))

pub capped_sum : (H L a v : ℕ) (t : SimTime) → IsSum (a + L) (Some t) → v ≡ min H (ticks_of t) → v ≡ capped H L a
unfolding capped
capped_sum H L a v t s f = f ∙ ap (λ (x : ℕ). min H x) s.1 ∙ fits (2 ^ 128) (a + L) H s.0

positive : 0 < 2 ^ 128
unfolding halves
positive = halves_fit 0 0 (record { upper = omega arith; lower = omega arith })

pub capped_over : (H L a : ℕ) → IsSum (a + L) None → H ≡ capped H L a
unfolding capped
capped_over H L a s = over (2 ^ 128) (a + L) H positive s
