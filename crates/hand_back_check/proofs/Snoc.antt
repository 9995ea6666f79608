-- One emission more at a list's end. Lists alone.
use mathlib.Core.Path.{◌≡◌, refl, sym, ap, ◌∙◌}
use mathlib.Core.Bool.{Bool, true, false, ◌||◌, or_assoc, or-false}
use mathlib.Core.List.{List, [], ◌∷◌, ◌++◌, append_assoc, append-nil}
use Prim.Native.Nat.{ℕ, ◌+◌, min}
use Rattle.std.specs.Prelude.{Option}
use Rattle.types.specs.declared.LpId.{LpId}
use native.Mathlib.Omega.{arith}
use Rattle.rules.specs.Base.{if◌then◌otherwise◌, count}
use Rattle.rules.specs.State.{Event, State, saturating_add, max_count}
use Rattle.rules.specs.Pending.{first_tick}
use Rattle.rules.specs.HandBack.{Emission, is_remote}
use Rattle.rules.proofs.Tests.{not_both}
use Rattle.reply_words.specs.Replies.{malformed_emission, any_malformed_emission}
use Rattle.hand_back_check.specs.EmissionRows.{last_of, counted, rows_of_next, rows_up_to}

pub last_snoc : (last : ℕ) (xs : List Emission) (x : Emission) → last_of last (xs ++ (x ∷ [])) ≡ x.emitter
unfolding last_of
last_snoc last [] x = refl
last_snoc last (y ∷ ys) x = last_snoc y.emitter ys x

pub ill_snoc : (q : List Event) (mask last : ℕ) (xs : List Emission) (x : Emission) → any_malformed_emission q mask last (xs ++ (x ∷ [])) ≡ any_malformed_emission q mask last xs || malformed_emission q mask (last_of last xs) x
unfolding any_malformed_emission last_of
ill_snoc q mask last [] x = or-false _
ill_snoc q mask last (y ∷ ys) x = ap (λ b. malformed_emission q mask last y || b) (ill_snoc q mask y.emitter ys x) ∙ sym (or_assoc (malformed_emission q mask last y) _ _)

-- What is malformed stays so, whatever comes behind.
pub ill_front : (q : List Event) (mask last : ℕ) (xs ys : List Emission) → any_malformed_emission q mask last xs ≡ true → any_malformed_emission q mask last (xs ++ ys) ≡ true
unfolding any_malformed_emission
ill_front q mask last [] ys h = not_both h refl
ill_front q mask last (x ∷ xs) ys h = go (malformed_emission q mask last x) h (ill_front q mask x.emitter xs ys)
  where
    go : (t : Bool) → (t || any_malformed_emission q mask x.emitter xs) ≡ true → (any_malformed_emission q mask x.emitter xs ≡ true → any_malformed_emission q mask x.emitter (xs ++ ys) ≡ true)
        → (t || any_malformed_emission q mask x.emitter (xs ++ ys)) ≡ true
    go true k ih = refl
    go false k ih = ih k

count_snoc : (xs : List Emission) (x : Emission) → count is_remote (xs ++ (x ∷ [])) ≡ count is_remote xs + (if is_remote x then 1 otherwise 0)
unfolding count
count_snoc [] x = omega arith
count_snoc (y ∷ ys) x = omega (arith, count_snoc ys x)

pub remote_snoc : (xs : List Emission) (x : Emission) → saturating_add 0 (count is_remote (xs ++ (x ∷ []))) ≡ counted (saturating_add 0 (count is_remote xs)) x
unfolding counted if◌then◌otherwise◌
remote_snoc xs x = rw (count_snoc xs x) (go (is_remote x))
  where
    go : (t : Bool) → min max_count (0 + (count is_remote xs + (if t then 1 otherwise 0))) ≡ (if t then min max_count (min max_count (0 + count is_remote xs) + 1) otherwise min max_count (0 + count is_remote xs))
    go true = omega arith
    go false = omega arith

pub rows_snoc : (s : State) (q : List Event) (f : Option LpId) (xs : List Emission) (x : Emission) → rows_up_to s q f (xs ++ (x ∷ [])) ≡ rows_up_to s q f xs ++ rows_of_next s f (first_tick q x.emitter 0) x
unfolding rows_up_to
rows_snoc s q f [] x = append-nil _
rows_snoc s q f (y ∷ ys) x = ap (λ l. rows_of_next s f (first_tick q y.emitter 0) y ++ l) (rows_snoc s q f ys x) ∙ sym (append_assoc (rows_of_next s f (first_tick q y.emitter 0) y) _ _)
