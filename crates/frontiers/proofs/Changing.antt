-- A table of ticks that changes process by process.
use mathlib.Core.Path.{◌≡◌, refl, sym}
use mathlib.Core.List.{List}
use Prim.Native.Nat.{ℕ, ◌*◌, ◌≤◌, ◌<◌}
use native.Mathlib.Omega.{arith}
use lib.ListN.{length}
use borrow.Author.Tests.{eqb-true, eqb-false}
use Rattle.types.specs.declared.SimTime.{SimTime}
use Rattle.types.specs.Value.{ticks_of}
use Rattle.words.specs.Words.{tick_of, put_tick}
use Rattle.words.proofs.Ticks.{table_same, table_other}
use Rattle.rules.proofs.Tests.{by_test}
use Rattle.frontiers.specs.Tables.{Changed}

-- The tick of process d is stored.
pub changed_put : (w u : List ℕ) (d : ℕ) (t : SimTime) (f : ℕ → ℕ) → d < 64 → length w ≡ 128 → ticks_of t ≡ f (tick_of w d) → u ≡ put_tick w (2 * d) t → Changed d f w u
unfolding Changed
changed_put w u d t f h l e eu p k =
    rw eu (by_test (λ (x : ℕ). tick_of (put_tick w (2 * d) t) p ≡ x)
    (λ b. let s : d ≡ p = eqb-true d p b in rw (← s) (rw (← e) (table_same w d t (omega arith))))
    (λ b. table_other w d p t (λ s. eqb-false d p b (sym s))))

-- Process 64 and above has no place.
pub changed_past : (w : List ℕ) (d : ℕ) (f : ℕ → ℕ) → 64 ≤ d → Changed d f w w
unfolding Changed
changed_past w d f h p k = by_test (λ (x : ℕ). tick_of w p ≡ x) (λ e. absurd (omega (arith, eqb-true d p e))) (λ e. refl)
