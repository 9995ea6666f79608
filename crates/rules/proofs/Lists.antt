-- What holds of every element of a list, the tests `any`, `every` and `non_empty`, and sums.
use mathlib.Core.Path.{◌≡◌, refl, sym, subst}
use mathlib.Core.Bool.{Bool, true, false, ◌||◌, true≢false}
use mathlib.Core.List.{List, [], ◌∷◌, ◌++◌, map}
use Prim.Native.Nat.{ℕ, zero, suc, ◌+◌, ◌≤◌, ◌<◌}
use native.Mathlib.Numerals.{add-one}
use native.Mathlib.Omega.{arith}
use lib.ListN.{length, get_or, drop, drop_of_length-le}
use lib.Seq.{drop-cons}
use lib.Dec.{eqb}
use borrow.Author.Tests.{eqb-true, eqb-false}
use Rattle.rules.specs.Base.{up_from, any, every, non_empty, sum}
use Rattle.rules.proofs.Tests.{by_bool, or_left, or_right, or_both, and_both}

abbrev pub All : {A : Type 0} → (A → Type 0) → List A → Type 0
All P [] = Unit {0}
All P (x ∷ xs) = P x × All P xs

pub all_map : {A : Type 0} (P Q : A → Type 0) → ((a : A) → P a → Q a) → (xs : List A) → All P xs → All Q xs
all_map P Q f [] i = tt
all_map P Q f (x ∷ xs) i = (f x i.0, all_map P Q f xs i.1)

pub all_both : {A : Type 0} (P Q : A → Type 0) (xs : List A) → All P xs → All Q xs → All (λ a. P a × Q a) xs
all_both P Q [] i j = tt
all_both P Q (x ∷ xs) i j = ((i.0, j.0), all_both P Q xs i.1 j.1)

pub all_append : {A : Type 0} (P : A → Type 0) (xs ys : List A) → All P xs → All P ys → All P (xs ++ ys)
all_append P [] ys i j = j
all_append P (x ∷ xs) ys i j = (i.0, all_append P xs ys i.1 j)

pub all_front : {A : Type 0} (P : A → Type 0) (xs ys : List A) → All P (xs ++ ys) → All P xs
all_front P [] ys i = tt
all_front P (x ∷ xs) ys i = (i.0, all_front P xs ys i.1)

pub all_rest : {A : Type 0} (P : A → Type 0) (xs ys : List A) → All P (xs ++ ys) → All P ys
all_rest P [] ys i = i
all_rest P (x ∷ xs) ys i = all_rest P xs ys i.1

pub all_of : {A : Type 0} (P : A → Type 0) → ((a : A) → P a) → (xs : List A) → All P xs
all_of P f [] = tt
all_of P f (x ∷ xs) = (f x, all_of P f xs)

pub all_mapped : {A B : Type 0} (P : B → Type 0) (f : A → B) (xs : List A) → All (λ a. P (f a)) xs → All P (map f xs)
all_mapped P f [] i = tt
all_mapped P f (x ∷ xs) i = (i.0, all_mapped P f xs i.1)

-- What holds of all numbers from i on, n of them, and of each.
pub at_number : (P : ℕ → Type 0) (i n : ℕ) → All P (up_from i n) → (p : ℕ) → i ≤ p → p < i + n → P p
unfolding up_from
at_number P i zero h p a b = absurd (omega arith)
at_number P i (suc n) h p a b = by_bool (eqb i p) (λ e. subst P (eqb-true i p e) h.0) (λ e. let d : ¬ (i ≡ p) = eqb-false i p e in at_number P (suc i) n h.1 p (omega arith) (omega arith))

pub all_number : (P : ℕ → Type 0) (i n : ℕ) → ((p : ℕ) → i ≤ p → p < i + n → P p) → All P (up_from i n)
unfolding up_from
all_number P i zero f = tt
all_number P i (suc n) f = (f i (omega arith) (omega arith), all_number P (suc i) n (λ p a b. f p (omega arith) (omega arith)))

-- All of all, the other way round.
module _ {A B : Type 0} (P : A → B → Type 0) where
  heads : (y : B) (ys : List B) (xs : List A) → All (λ a. All (P a) (y ∷ ys)) xs → All (λ a. P a y) xs
  heads y ys [] i = tt
  heads y ys (x ∷ xs) i = (i.0.0, heads y ys xs i.1)

  tails : (y : B) (ys : List B) (xs : List A) → All (λ a. All (P a) (y ∷ ys)) xs → All (λ a. All (P a) ys) xs
  tails y ys [] i = tt
  tails y ys (x ∷ xs) i = (i.0.1, tails y ys xs i.1)

  pub all_swap : (ys : List B) (xs : List A) → All (λ a. All (P a) ys) xs → All (λ b. All (λ a. P a b) xs) ys
  all_swap [] xs i = tt
  all_swap (y ∷ ys) xs i = (heads y ys xs i, all_swap ys xs (tails y ys xs i))

-- Tests over a list.
module _ {A : Type 0} (f : A → Bool) where
  pub any_none : (xs : List A) → any f xs ≡ false → All (λ x. f x ≡ false) xs
  unfolding any
  any_none [] h = tt
  any_none (x ∷ xs) h = (or_left (f x) (any f xs) h, any_none xs (or_right (f x) (any f xs) h))

  pub none_any : (xs : List A) → All (λ x. f x ≡ false) xs → any f xs ≡ false
  unfolding any
  none_any [] i = refl
  none_any (x ∷ xs) i = or_both (f x) (any f xs) i.0 (none_any xs i.1)

  pub all_every : (xs : List A) → All (λ x. f x ≡ true) xs → every f xs ≡ true
  unfolding every
  all_every [] i = refl
  all_every (x ∷ xs) i = and_both (f x) (every f xs) i.0 (all_every xs i.1)

  -- Some element passes: whatever follows from each that does, follows.
  pub any_some : {C : Type 0} (xs : List A) → any f xs ≡ true → All (λ x. f x ≡ true → C) xs → C
  unfolding any
  any_some [] h i = absurd (true≢false (sym h))
  any_some {C} (x ∷ xs) h i = go (f x) refl h (λ g. any_some xs g i.1)
    where
      go : (t : Bool) → f x ≡ t → t || any f xs ≡ true → (any f xs ≡ true → C) → C
      go true e h ih = i.0 e
      go false e h ih = ih h

pub empty_nil : {A : Type 0} (xs : List A) → non_empty xs ≡ false → xs ≡ []
unfolding non_empty
empty_nil [] h = refl
empty_nil (x ∷ xs) h = absurd (true≢false h)

pub some_long : {A : Type 0} (xs : List A) → non_empty xs ≡ true → 0 < length xs
unfolding non_empty
some_long [] h = absurd (true≢false (sym h))
some_long (x ∷ xs) h = omega arith

-- The sum of what is left at i.
pub sum_more : (xs : List ℕ) (i : ℕ) → i < length xs → sum (drop i xs) ≡ get_or xs i 0 + sum (drop (i + 1) xs)
unfolding sum
sum_more xs i h = rw (add-one, drop-cons xs i 0)

pub sum_none : (xs : List ℕ) (i : ℕ) → length xs ≤ i → sum (drop i xs) ≡ 0
unfolding sum
sum_none xs i h = rw (drop_of_length-le xs h)
