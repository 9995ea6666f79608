-- 27 to 33, process by process, are 28 to 33 of the emissions in turn up to the first process that failed, and then 27 of it. Lists alone.
use mathlib.Core.Path.{◌≡◌, refl, sym, ap, ◌∙◌}
use mathlib.Core.Bool.{true, false}
use mathlib.Core.List.{List, [], ◌∷◌, ◌++◌, append_assoc}
use Prim.Native.Nat.{ℕ, ◌<◌}
use Rattle.std.specs.Prelude.{Option, Some}
use Rattle.types.specs.declared.LpId.{LpId}
use Rattle.types.specs.Value.{lp_id_of}
use native.Mathlib.Omega.{arith}
use lib.Dec.{eqb}
use borrow.Author.Tests.{lt-ltb, le-ltb, eq-eqb, ne_eqb, eqb-true}
use Rattle.rules.specs.Base.{if◌then◌otherwise◌, any}
use Rattle.rules.specs.State.{Event, State}
use Rattle.rules.specs.Rows.{Row, unless}
use Rattle.rules.specs.Pending.{first_of, first_tick, tick_or}
use Rattle.rules.specs.HandBack.{Emission, failed, in_batch, process_rows}
use Rattle.rules.proofs.Tests.{by_bool, not_both}
use Rattle.rules.proofs.Lists.{All}
use Rattle.rules.proofs.Table.{unless_append}
use Rattle.rules.proofs.Order.{Pairs}
use Rattle.hand_back_emission.specs.Checks.{rows_of}
use Rattle.hand_back_check.specs.EmissionRows.{own_rows, behind, first_failed, past_failed, rows_of_next, rows_up_to, failed_row}
use Rattle.hand_back_emission.proofs.Checks.{Same}
use Rattle.hand_back_check.proofs.Turns.{NotLater, From, Past, In, InTurn, past, beyond, from, turn, turn_rest}

abbrev Well : ℕ → Emission → Type 0
Well mask x = failed mask x.emitter ≡ false

all_behind : (P : Emission → Type 0) (p : ℕ) (xs : List Emission) → All P xs → All P (behind p xs)
unfolding behind if◌then◌otherwise◌
all_behind P p [] h = tt
all_behind P p (x ∷ xs) h = by_bool (eqb x.emitter p) (λ b. rw b (all_behind P p xs h.1)) (λ b. rw b h)

-- The first failed process is behind one that every event is behind.
first_past : (mask p : ℕ) (es : List Event) → All (λ (f : Event). p < f.destination) es → past_failed (first_failed mask es) p ≡ false
unfolding first_failed if◌then◌otherwise◌
first_past mask p [] a = refl
first_past mask p (f ∷ fs) a = by_bool (failed mask f.destination) (λ b. rw b (le-ltb f.destination p (omega (arith, a.0)))) (λ b. rw b (first_past mask p fs a.1))

module _ (s : State) (e : Event) (es : List Event) where
  -- Emissions of other processes do not see the event.
  tick_own : (p : ℕ) → p ≡ e.destination → first_tick (e ∷ es) p 0 ≡ e.tick
  unfolding first_tick first_of tick_or if◌then◌otherwise◌
  tick_own p h = rw (eq-eqb e.destination p (sym h))

  tick_other : (p : ℕ) → e.destination < p → first_tick (e ∷ es) p 0 ≡ first_tick es p 0
  unfolding first_tick first_of tick_or if◌then◌otherwise◌
  tick_other p h = rw (ne_eqb e.destination p (λ z. omega arith))

  module _ (f : Option LpId) where
    rows_past : (xs : List Emission) → All (Past e.destination) xs → rows_up_to s (e ∷ es) f xs ≡ rows_up_to s es f xs
    unfolding rows_up_to
    rows_past [] a = refl
    rows_past (x ∷ xs) a = λ i. rows_of_next s f (tick_other x.emitter a.0 i) x ++ rows_past xs a.1 i

    own_rows_holds : (x : Emission) → x.emitter ≡ e.destination → past_failed f e.destination ≡ false → rows_of_next s f (first_tick (e ∷ es) x.emitter 0) x ≡ rows_of s e.tick x
    unfolding rows_of_next if◌then◌otherwise◌
    own_rows_holds x h l = rw (tick_own x.emitter h, ap (past_failed f) h ∙ l)

    split_rows : past_failed f e.destination ≡ false → (xs : List Emission) → Pairs NotLater xs → All (From e.destination) xs → rows_up_to s (e ∷ es) f xs ≡ own_rows s e.tick e.destination xs ++ rows_up_to s es f (behind e.destination xs)
    unfolding rows_up_to own_rows behind if◌then◌otherwise◌
    split_rows l [] o a = refl
    split_rows l (x ∷ xs) o a =
        by_bool (eqb x.emitter e.destination)
        (λ b. rw (b, own_rows_holds x (eqb-true x.emitter e.destination b) l) (ap (λ (r : List Row). rows_of s e.tick x ++ r) (split_rows l xs o.1 a.1) ∙ sym (append_assoc (rows_of s e.tick x) _ _)))
        (λ b.
        let z : Past e.destination x = beyond e.destination x a.0 b in
        rw b (rows_past (x ∷ xs) (z, past e.destination x xs z o.0)))

-- None is checked where the first process failed.
none_checked : (s : State) (q : List Event) (f : LpId) (xs : List Emission) → All (Past (lp_id_of f)) xs → rows_up_to s q (Some f) xs ≡ []
unfolding rows_up_to rows_of_next if◌then◌otherwise◌
none_checked s q f [] a = refl
none_checked s q f (x ∷ xs) a = rw (lt-ltb (lp_id_of f) x.emitter a.0) (none_checked s q f xs a.1)

passes_failed : (mask p : ℕ) (xs : List Emission) → failed mask p ≡ true → All (From p) xs → All (Well mask) xs → All (Past p) xs
passes_failed mask p [] h a w = tt
passes_failed mask p (x ∷ xs) h a w =
    let n : (x.emitter ≡ p → ⊥) = λ z. not_both h (ap (failed mask) (sym z) ∙ w.0) in
    (omega (arith, n, a.0), passes_failed mask p xs h a.1 w.1)

nobody : (xs : List Emission) → All (In []) xs → xs ≡ []
unfolding in_batch any
nobody [] k = refl
nobody (x ∷ xs) k = not_both k.0 refl

pub rows_alike : (s : State) (mask : ℕ) (q : List Event) (xs : List Emission) → InTurn q xs → All (Well mask) xs → Same (process_rows s mask xs q) (rows_up_to s q (first_failed mask q) xs ++ failed_row (first_failed mask q))
unfolding Same process_rows rows_up_to first_failed unless if◌then◌otherwise◌
rows_alike s mask [] xs t w f d = rw (nobody xs t.known)
rows_alike s mask (e ∷ es) xs t w f d =
    ap (λ (r : List Row). unless r f d) (turn e es xs t s mask)
    ∙ by_bool (failed mask e.destination)
    (λ b. rw (b, none_checked s (e ∷ es) (record { 0 = e.destination }) xs (passes_failed mask e.destination xs b (from e es xs t) w)))
    (λ b.
    let z : past_failed (first_failed mask es) e.destination ≡ false = first_past mask e.destination es t.events.0 in
    let own = own_rows s e.tick e.destination xs in
    let rest = behind e.destination xs in
    let i : unless (process_rows s mask rest es) f d ≡ unless (rows_up_to s es (first_failed mask es) rest ++ failed_row (first_failed mask es)) f d =
    rows_alike s mask es rest (turn_rest e es xs t) (all_behind (Well mask) e.destination xs w) f d in
    rw (b, split_rows s e es (first_failed mask es) z xs t.emissions (from e es xs t))
    (unless_append own (process_rows s mask rest es) f d ∙ ap (unless own f) i ∙ sym (unless_append own _ f d) ∙ ap (λ (r : List Row). unless r f d) (sym (append_assoc own _ _))))
