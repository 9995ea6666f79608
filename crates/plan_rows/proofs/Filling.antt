-- Lists of numbers: whether they fall, and one stored behind the others.
use mathlib.Core.Path.{◌≡◌, refl, sym, ap, ◌∙◌}
use mathlib.Core.Bool.{Bool, true, false}
use mathlib.Core.List.{List, [], ◌∷◌, ◌++◌}
use Prim.Native.Nat.{ℕ, zero, suc, ◌+◌, ◌<◌}
use native.Mathlib.Omega.{arith}
use native.Mathlib.Numerals.{add-one}
use lib.Dec.{leb}
use lib.ListN.{length, take, get_or, set}
use lib.Seq.{take-suc-set}
use Rattle.std.specs.List.{IsAllAdjacentAnswer}
use Rattle.rules.proofs.Tests.{by_bool, and_off}
use Rattle.rules.specs.Base.{up_from, up_to, rising}

-- Whether each number is at least the one before it, as is_sorted_by answers it.
rising_all : (xs : List ℕ) → ((k : ℕ) → suc k < length xs → leb (get_or xs k 0) (get_or xs (suc k) 0) ≡ true) → rising leb xs ≡ true
unfolding rising
rising_all [] h = refl
rising_all (x ∷ []) h = refl
rising_all (x ∷ y ∷ ys) h = rw (h 0 (omega arith)) (rising_all (y ∷ ys) (λ k l. h (suc k) (omega arith)))

rising_stops : (xs : List ℕ) (k : ℕ) → suc k < length xs → leb (get_or xs k 0) (get_or xs (suc k) 0) ≡ false → rising leb xs ≡ false
unfolding rising
rising_stops [] k l h = absurd (omega arith)
rising_stops (x ∷ []) k l h = absurd (omega arith)
rising_stops (x ∷ y ∷ ys) zero l h = and_off _ _ h
rising_stops (x ∷ y ∷ ys) (suc k) l h = by_bool (leb x y) (λ e. rw e (rising_stops (y ∷ ys) k (omega arith) h)) (λ e. rw e)

pub rising_answer : (xs : List ℕ) (r : Bool) → IsAllAdjacentAnswer (λ x y b. b ≡ leb x y) xs r → r ≡ rising leb xs
rising_answer xs true h = sym (rising_all xs (λ k l. rw add-one at (sym (h k 0 (rw add-one l)))))
rising_answer xs false (k, l, h) = sym (rising_stops xs k (rw add-one at l) (rw add-one at (sym (h 0))))

-- The same of a list that is the one asked about.
pub rising_answer_of : (xs ys : List ℕ) (r : Bool) → IsAllAdjacentAnswer (λ x y b. b ≡ leb x y) ys r → ys ≡ xs → r ≡ rising leb xs
rising_answer_of xs ys r h e = rising_answer ys r h ∙ ap (rising leb) e

-- A number stored behind the first i.
pub one_behind : (w xs : List ℕ) (i v : ℕ) → i < length w → take i w ≡ xs → take (i + 1) (set w i v) ≡ xs ++ (v ∷ [])
one_behind w xs i v h e = rw (add-one, take-suc-set w i v h, e)

from_more : (j n : ℕ) → up_from j (suc n) ≡ up_from j n ++ ((j + n) ∷ [])
unfolding up_from
from_more j zero = let e : j + 0 ≡ j = omega arith in rw e
from_more j (suc n) = let e : suc j + n ≡ j + suc n = omega arith in ap (λ (l : List ℕ). j ∷ l) (from_more (suc j) n ∙ rw e)

pub up_more : (i : ℕ) → up_to (i + 1) ≡ up_to i ++ (i ∷ [])
unfolding up_to
up_more i = let e : 0 + i ≡ i = omega arith in rw add-one (from_more 0 i ∙ rw e)

pub up_none : up_to 0 ≡ []
unfolding up_to up_from
up_none = refl
