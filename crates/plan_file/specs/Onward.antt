-- Where a reading in two steps ends: the laws of a list of records.
use Rattle.std.specs.Prelude.{ℕ, suc, ◌≡◌, Bool, List, ◌∷◌, refl}
use Rattle.plan_file.specs.Format.{Got, Got.short, Got.got, next, Format, gets}
use Rattle.plan_file.specs.Walked.{rest}

-- What follows goes on behind what was read.
unfoldable pub onward : {A : Type 0} → Got A → (List Bool → Got (Unit {0})) → Got (Unit {0})
onward short k = short
onward (got a r) k = k r

-- The rest of a reading in two steps, where the second goes on in the same way after every value.
pub rest_next : {A B : Type 0} (x : Got A) (k : A → List Bool → Got B) (j : List Bool → Got (Unit {0}))
    → ((a : A) (r : List Bool) → rest (k a r) ≡ j r) → rest (next x k) ≡ onward (rest x) j
unfolding rest next onward
rest_next short k j h = refl
rest_next (got a r) k j h = h a r

pub rest_same : {A B : Type 0} (x : Got A) (k : A → B) → rest (next x (λ a r. got (k a) r)) ≡ rest x
unfolding rest next
rest_same short k = refl
rest_same (got a r) k = refl

pub rest_none : {A : Type 0} (f : Format A) (b : List Bool) → rest (gets f 0 b) ≡ got tt b
unfolding gets rest
rest_none f b = refl

pub rest_gets : {A : Type 0} (f : Format A) (n : ℕ) (b : List Bool) → rest (gets f (suc n) b) ≡ onward (rest (f.get b)) (λ r. rest (gets f n r))
unfolding gets
rest_gets f n b = rest_next (f.get b) _ _ (λ a r. rest_same (gets f n r) (λ xs. a ∷ xs))
