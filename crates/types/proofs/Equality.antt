-- The derived equality of instants and durations is that of their numbers.
use Prim.Native.Nat.{ℕ}
use mathlib.Core.Bool.{Bool, true, false, ◌&&◌}
use mathlib.Core.Path.{◌≡◌, refl, sym, ◌∙◌}
use native.Mathlib.Omega.{arith}
use lib.Dec.{eqb}
use borrow.Author.Tests.{eqb-true, eqb-false}
use Rattle.types.specs.declared.SimDuration.{SimDuration}
use Rattle.types.specs.declared.SimTime.{SimTime}
use Rattle.types.specs.Value.{halves, ticks_of, duration_of}
use Rattle.types.proofs.Halves.{Whole, eqb_lower, eqb_upper}

-- Both halves are equal where the numbers are.
both : (x : Bool) (a l b m : ℕ) → Whole a l → Whole b m → x ≡ eqb a b → (x && eqb l m) ≡ eqb (halves a l) (halves b m)
both true a l b m v w e = eqb_lower a l b m (eqb-true a b (sym e))
both false a l b m v w e = sym (eqb_upper a l b m v w (eqb-false a b (sym e)))

pub eq_ticks : (s t : SimTime) (r : Bool) → Whole s.hi s.lo → Whole t.hi t.lo → r ≡ (eqb s.hi t.hi && eqb s.lo t.lo) → r ≡ eqb (ticks_of s) (ticks_of t)
eq_ticks s t r v w e = e ∙ both (eqb s.hi t.hi) s.hi s.lo t.hi t.lo v w refl

pub zero_duration : (d : SimDuration) (r : Bool) → Whole d.hi d.lo → r ≡ (eqb d.hi 0 && eqb d.lo 0) → r ≡ eqb (duration_of d) 0
unfolding halves
zero_duration d r v e = e ∙ both (eqb d.hi 0) d.hi d.lo 0 0 v (record { upper = omega arith; lower = omega arith }) refl
