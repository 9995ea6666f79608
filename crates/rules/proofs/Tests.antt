-- Cases of a test, and Boolean tests taken apart.
use mathlib.Core.Path.{◌≡◌, refl, sym, ◌∙◌}
use mathlib.Core.Bool.{Bool, true, false, not, ◌&&◌, ◌||◌, true≢false}
use Rattle.rules.specs.Base.{if◌then◌otherwise◌}

-- What holds of both branches, each under its test, holds of the choice. Keep P shut.
pub by_test {ℓ κ} : {A : Type ℓ} (P : A → Type κ) {b : Bool} {x y : A} → (b ≡ true → P x) → (b ≡ false → P y) → P (if b then x otherwise y)
unfolding if◌then◌otherwise◌
by_test P {b} {x} {y} f g = go b refl
  where
    go : (t : Bool) → b ≡ t → P (if t then x otherwise y)
    go true e = f e
    go false e = g e

-- The same for a statement that is no choice itself.
pub by_bool {κ} : {C : Type κ} (b : Bool) → (b ≡ true → C) → (b ≡ false → C) → C
by_bool {C = C} b f g = go b refl
  where
    go : (t : Bool) → b ≡ t → C
    go true e = f e
    go false e = g e

pub not_both {κ} : {C : Type κ} {b : Bool} → b ≡ true → b ≡ false → C
not_both e f = absurd (true≢false (sym e ∙ f))

pub or_left : (a b : Bool) → a || b ≡ false → a ≡ false
or_left true b h = h
or_left false b h = refl

pub or_right : (a b : Bool) → a || b ≡ false → b ≡ false
or_right true b h = absurd (true≢false h)
or_right false b h = h

pub or_both : (a b : Bool) → a ≡ false → b ≡ false → a || b ≡ false
or_both true b h k = h
or_both false b h k = k

pub or_cases {κ} : {C : Type κ} (a b : Bool) → a || b ≡ true → (a ≡ true → C) → (b ≡ true → C) → C
or_cases true b h f g = f refl
or_cases false b h f g = g h

pub or_else : (a b : Bool) → a ≡ false → a || b ≡ true → b ≡ true
or_else true b e h = absurd (true≢false e)
or_else false b e h = h

pub and_left : (a b : Bool) → a && b ≡ true → a ≡ true
and_left true b h = refl
and_left false b h = h

pub and_right : (a b : Bool) → a && b ≡ true → b ≡ true
and_right true b h = h
and_right false b h = absurd (true≢false (sym h))

pub and_both : (a b : Bool) → a ≡ true → b ≡ true → a && b ≡ true
and_both true b h k = k
and_both false b h k = h

-- The first holds, so the second is what fails.
pub and_other : (a b : Bool) → a ≡ true → a && b ≡ false → b ≡ false
and_other true b h k = k
and_other false b h k = absurd (true≢false (sym h))

pub and_off : (a b : Bool) → a ≡ false → a && b ≡ false
and_off true b h = absurd (true≢false h)
and_off false b h = refl

pub not_true : (t : Bool) → not t ≡ true → t ≡ false
not_true true e = sym e
not_true false e = refl

pub not_false : (t : Bool) → not t ≡ false → t ≡ true
not_false true e = refl
not_false false e = sym e

pub not_of_true : (t : Bool) → t ≡ true → not t ≡ false
not_of_true true e = refl
not_of_true false e = absurd (true≢false (sym e))
