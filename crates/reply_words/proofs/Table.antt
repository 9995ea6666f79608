-- The table of places: what it says of the batch, and how it is filled, from the last event to the first.
use mathlib.Core.Path.{◌≡◌, refl, sym, ap, ◌∙◌}
use mathlib.Core.Bool.{Bool, true, false, not, ◌||◌}
use mathlib.Core.List.{List, [], ◌∷◌}
use Prim.Native.Nat.{ℕ, zero, suc, ◌+◌, ◌-◌, ◌*◌, ◌≤◌, ◌<◌}
use native.Mathlib.Omega.{arith}
use lib.Dec.{eqb}
use lib.ListN.{length, get_or, set, get_or-eq_default}
use lib.Seq.{get_or-set_same, get_or-set_other}
use borrow.Author.Tests.{eqb-true, eqb-false, ne_eqb}
use Rattle.words.specs.Words.{tab, zeroes}
use Rattle.words.proofs.Tab.{tab_step, tab_none, tab_whole}
use Rattle.rules.specs.Base.{if◌then◌otherwise◌, some, any}
use Rattle.rules.specs.State.{Event}
use Rattle.rules.specs.Pending.{first_of}
use Rattle.rules.specs.HandBack.{in_batch}
use Rattle.rules.proofs.Tests.{by_test}
use Rattle.records.specs.Records.{event_at, events_of, Owners}
use Rattle.records.proofs.Stored.{event_to}
use Rattle.reply_words.specs.Replies.{place_from, Places}

-- A process has place 0 where it is not in the batch.
place_none : (i : ℕ) (q : List Event) (p : ℕ) → not (in_batch q p) ≡ eqb (place_from i q p) 0
unfolding place_from in_batch any if◌then◌otherwise◌
place_none i [] p = refl
place_none i (e ∷ es) p = go (eqb e.destination p) (place_none (suc i) es p)
  where
    go : (t : Bool) → not (in_batch es p) ≡ eqb (place_from (suc i) es p) 0 → not (t || in_batch es p) ≡ eqb (if t then suc i otherwise place_from (suc i) es p) 0
    go true h = let n : suc i ≡ 0 → ⊥ = λ e. omega arith in sym (ne_eqb (suc i) 0 n)
    go false h = h

pub absent : (q : List Event) (t : List ℕ) (p : ℕ) → Places q t → not (in_batch q p) ≡ eqb (get_or t p 0) 0
unfolding Places
absent q t p h = rw (h p) (place_none 0 q p)

-- Place k + 1 is that of event k, the first of its process.
first_from : (f : ℕ → Event) (i m p k : ℕ) → place_from i (tab f i m) p ≡ suc k → (k < i + m) × (first_of (tab f i m) p ≡ some (f k))
unfolding place_from tab first_of if◌then◌otherwise◌
first_from f i zero p k h = absurd (omega arith)
first_from f i (suc m) p k h = go (eqb (f i).destination p) h (first_from f (suc i) m p k)
  where
    go : (t : Bool) → (if t then suc i otherwise place_from (suc i) (tab f (suc i) m) p) ≡ suc k
        → (place_from (suc i) (tab f (suc i) m) p ≡ suc k → (k < suc i + m) × (first_of (tab f (suc i) m) p ≡ some (f k)))
        → (k < i + suc m) × ((if t then some (f i) otherwise first_of (tab f (suc i) m) p) ≡ some (f k))
    go true h ih = let e : i ≡ k = omega arith in (omega arith, rw e)
    go false h ih = let r = ih h in (omega (arith, r.0), r.1)

pub place_first : (w : List ℕ) (n : ℕ) (t : List ℕ) (p k : ℕ) → Places (events_of n w) t → get_or t p 0 ≡ k + 1 → (k < n) × (first_of (events_of n w) p ≡ some (event_at w k))
unfolding Places
place_first w n t p k h e =
    let r = first_from (event_at w) 0 n p k (sym (h p) ∙ e ∙ omega arith) in
    (omega (arith, r.0), r.1)

pub past_end : (t : List ℕ) (p : ℕ) → length t ≡ 64 → 64 ≤ p → get_or t p 0 ≡ 0
past_end t p l h = let g : length t ≤ p = omega arith in get_or-eq_default t 0 g

-- The events from i on are passed.
pub record Placing (w : List ℕ) (n i : ℕ) (t : List ℕ) : Type 0 where
  pub places : (p : ℕ) → get_or t p 0 ≡ place_from i (tab (event_at w) i (n - i)) p

pub owner_next : (w : List ℕ) (n i : ℕ) → 0 < i → i ≤ n → Owners n w → get_or w (8 * (i - 1)) 0 < 64
unfolding Owners
owner_next w n i h m o = rw (event_to w (i - 1)) at (o (i - 1) (omega arith))

noughts : (k p : ℕ) → get_or (zeroes k) p 0 ≡ 0
noughts zero p = refl
noughts (suc k) zero = refl
noughts (suc k) (suc p) = noughts k p

pub empty_length : (t : List ℕ) → t ≡ zeroes 64 → length t ≡ 64
empty_length t e = ap length e

pub placing_start : (w : List ℕ) (n : ℕ) (t : List ℕ) → t ≡ zeroes 64 → Placing w n n t
unfolding place_from
placing_start w n t e = record {
  places = λ p. ap (λ (x : List ℕ). get_or x p 0) e ∙ noughts 64 p ∙ rw (tab_none (event_at w) n n (omega arith));
}

word_set : (t : List ℕ) (d p x : ℕ) → d < length t → get_or (set t d x) p 0 ≡ (if eqb d p then x otherwise get_or t p 0)
word_set t d p x h =
    by_test (λ (y : ℕ). get_or (set t d x) p 0 ≡ y)
    (λ b. let s : d ≡ p = eqb-true d p b in rw (← s) (get_or-set_same t d x 0 h))
    (λ b. get_or-set_other t d p x 0 (λ s. eqb-false d p b (sym s)))

pub placing_more : (w : List ℕ) (n i : ℕ) (t : List ℕ) → 0 < i → i ≤ n → Placing w n i t → length t ≡ 64 → Owners n w → Placing w n (i - 1) (set t (get_or w (8 * (i - 1)) 0) (i - 1 + 1))
unfolding place_from
placing_more w n i t h m f l o =
    let d : get_or w (8 * (i - 1)) 0 < length t = omega (arith, owner_next w n i h m o) in
    let s : i - 1 + 1 ≡ i = omega arith in
    let u : suc (i - 1) ≡ i = omega arith in
    record {
      places = λ p. word_set t (get_or w (8 * (i - 1)) 0) p (i - 1 + 1) d ∙ rw (tab_step (event_at w) i n h m, event_to w (i - 1), s, u, f.places p);
    }

pub placing_end : (w : List ℕ) (n i : ℕ) (t : List ℕ) → i ≤ 0 → Placing w n i t → Places (events_of n w) t
unfolding Places
placing_end w n i t o f p =
    let z : i ≡ 0 = omega arith in
    f.places p ∙ rw (tab_whole (event_at w) i n z, z)
