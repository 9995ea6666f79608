-- A choice by a test, a value that may be missing, and lists. Nothing here is about rehearsals.
use Rattle.std.specs.Prelude.{Bool, true, false, ◌&&◌, ◌||◌, List, [], ◌∷◌, ℕ, zero, suc, ◌+◌, eqb}

infixr 20 if◌then◌otherwise◌
unfoldable pub if◌then◌otherwise◌ {ℓ} : {A : Type ℓ} → Bool → A → A → A
if true then a otherwise b = a
if false then a otherwise b = b

pub data Maybe (A : Type 0) : Type 0 where
  none : Maybe A
  some : A → Maybe A

unfoldable pub is_some : {A : Type 0} → Maybe A → Bool
is_some none = false
is_some (some a) = true

-- The numbers from i on, n of them; and 0 to n - 1.
unfoldable pub up_from : ℕ → ℕ → List ℕ
up_from i zero = []
up_from i (suc n) = i ∷ up_from (suc i) n

unfoldable pub up_to : ℕ → List ℕ
up_to n = up_from 0 n

-- Whether a test holds of some element, whether one of several holds, and whether a test holds of every element.
unfoldable pub any : {A : Type 0} → (A → Bool) → List A → Bool
any f [] = false
any f (x ∷ xs) = f x || any f xs

unfoldable pub any_of : List Bool → Bool
any_of ts = any (λ t. t) ts

unfoldable pub every : {A : Type 0} → (A → Bool) → List A → Bool
every f [] = true
every f (x ∷ xs) = f x && every f xs

unfoldable pub member : ℕ → List ℕ → Bool
member x ys = any (eqb x) ys

unfoldable pub non_empty : {A : Type 0} → List A → Bool
non_empty [] = false
non_empty (x ∷ xs) = true

unfoldable pub sum : List ℕ → ℕ
sum [] = 0
sum (x ∷ xs) = x + sum xs

-- How many elements a test holds of.
unfoldable pub count : {A : Type 0} → (A → Bool) → List A → ℕ
count f [] = 0
count f (x ∷ xs) = (if f x then 1 otherwise 0) + count f xs

-- Each element comes before the next.
unfoldable pub rising : {A : Type 0} → (A → A → Bool) → List A → Bool
rising before [] = true
rising before (x ∷ []) = true
rising before (x ∷ y ∷ ys) = before x y && rising before (y ∷ ys)
