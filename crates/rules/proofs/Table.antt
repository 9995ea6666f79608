-- Tables of refusals: what a row that decides tells, and what it tells that none does.
use mathlib.Core.Path.{◌≡◌, refl}
use mathlib.Core.Bool.{true, false}
use mathlib.Core.List.{List, [], ◌∷◌, ◌++◌}
use Rattle.rules.specs.Answers.{Refusal}
use Rattle.rules.specs.Rows.{Row, unless}
use Rattle.rules.proofs.Tests.{by_test}
use Rattle.rules.proofs.Lists.{All, all_of}

-- No row's test holds.
abbrev pub Passed : List Row → Type 0
Passed rs = All (λ (r : Row). r.test ≡ false) rs

-- Q of the first row whose test holds.
abbrev pub Firsts : (Refusal → Type 0) → List Row → Type 0
Firsts Q [] = Unit {0}
Firsts Q (r ∷ rs) = (r.test ≡ true → Q r.refusal) × (r.test ≡ false → Firsts Q rs)

pub by_firsts : {A : Type 0} (P : A → Type 0) (rs : List Row) (f : Refusal → A) (a : A) → Firsts (λ r. P (f r)) rs → (Passed rs → P a) → P (unless rs f a)
unfolding unless
by_firsts P [] f a i g = g tt
by_firsts P (r ∷ rs) f a i g = by_test P (λ e. i.0 e) (λ e. by_firsts P rs f a (i.1 e) (λ p. g (e, p)))

pub firsts_append : (Q : Refusal → Type 0) (rs ts : List Row) → Firsts Q rs → (Passed rs → Firsts Q ts) → Firsts Q (rs ++ ts)
firsts_append Q [] ts i j = j tt
firsts_append Q (r ∷ rs) ts i j = (i.0, λ e. firsts_append Q rs ts (i.1 e) (λ p. j (e, p)))

-- Q of every row.
pub firsts_all : (Q : Refusal → Type 0) (rs : List Row) → All (λ (r : Row). Q r.refusal) rs → Firsts Q rs
firsts_all Q [] i = tt
firsts_all Q (r ∷ rs) i = ((λ _. i.0), λ _. firsts_all Q rs i.1)

-- Where what is answered is no refusal, no row's test holds.
pub none_decides : {A : Type 0} (rs : List Row) (f : Refusal → A) (a : A) → ((r : Refusal) → f r ≡ a → ⊥) → unless rs f a ≡ a → Passed rs
none_decides rs f a n e = by_firsts (λ x. x ≡ a → Passed rs) rs f a (firsts_all (λ r. f r ≡ a → Passed rs) rs (all_of (λ (r : Row). f r.refusal ≡ a → Passed rs) (λ r z. absurd (n r.refusal z)) rs)) (λ p z. p) e

-- The rows ts decide where none of the rows rs does.
pub unless_append : {A : Type 0} (rs ts : List Row) (f : Refusal → A) (a : A) → unless (rs ++ ts) f a ≡ unless rs f (unless ts f a)
unfolding unless
unless_append [] ts f a = refl
unless_append (r ∷ rs) ts f a = rw (unless_append rs ts f a)
