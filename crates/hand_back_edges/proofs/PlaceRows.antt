-- The rows of the places of a batch.
use mathlib.Core.Path.{◌≡◌, refl, sym, ◌∙◌}
use mathlib.Core.Bool.{Bool, true, false}
use mathlib.Core.List.{List, [], ◌∷◌}
use Prim.Native.Nat.{ℕ, zero, suc, ◌-◌, ◌*◌, ◌≤◌, ◌<◌}
use native.Mathlib.Omega.{arith}
use lib.Dec.{eqb}
use lib.ListN.{length, get_or}
use borrow.Author.Tests.{eqb-true, eqb-false}
use Rattle.words.specs.Words.{zeroes}
use Rattle.records.specs.Records.{event_at, events_of}
use Rattle.rules.specs.Base.{if◌then◌otherwise◌, some}
use Rattle.rules.specs.State.{Event}
use Rattle.rules.specs.Pending.{first_of}
use Rattle.rules.proofs.Tests.{by_bool}
use Rattle.reply_words.specs.Replies.{Places}
use Rattle.reply_words.proofs.Table.{place_first}
use Rattle.hand_back_edges.specs.Looks.{Rows}

first_owner : (q : List Event) (p : ℕ) (e : Event) → first_of q p ≡ some e → e.destination ≡ p
unfolding first_of if◌then◌otherwise◌
first_owner [] p e h = let z : ◌≡◌ {A = ℕ} 0 1 = cc in absurd (omega arith)
first_owner (f ∷ fs) p e h = go (eqb f.destination p) refl h (first_owner fs p e)
  where
    go : (t : Bool) → eqb f.destination p ≡ t → (if t then some f otherwise first_of fs p) ≡ some e → (first_of fs p ≡ some e → e.destination ≡ p) → e.destination ≡ p
    go true b s ih = let x : f ≡ e = cc in rw (← x) (eqb-true f.destination p b)
    go false b s ih = ih s

-- Those of two processes are apart, since a place is that of one event.
module _ (w : List ℕ) (n : ℕ) (T : List ℕ) (h : Places (events_of n w) T) where
  abbrev placed : (p : ℕ) → (get_or T p 0 ≡ 0 → ⊥) → (get_or T p 0 - 1 < n) × (first_of (events_of n w) p ≡ some (event_at w (get_or T p 0 - 1)))
  placed p q = place_first w n T p (get_or T p 0 - 1) h (omega arith)

  place_below : (p : ℕ) → get_or T p 0 ≤ n
  place_below p = by_bool (eqb (get_or T p 0) 0) (λ b. omega (arith, eqb-true (get_or T p 0) 0 b)) (λ b. let q = eqb-false (get_or T p 0) 0 b in omega (arith, q, (placed p q).0))

  place_apart : (p q : ℕ) → (get_or T p 0 ≡ 0 → ⊥) → get_or T p 0 ≡ get_or T q 0 → p ≡ q
  place_apart p q m e =
      let x = first_owner _ p _ (placed p m).1 in
      let y = first_owner _ q _ (placed q (λ z. m (e ∙ z))).1 in
      sym x ∙ rw e y

  pub rows_of : (N : ℕ) → length T ≡ 64 → 64 * n ≤ N → Rows T N
  rows_of N l m = record { place_words = l; within = λ p. omega (arith, place_below p); apart = place_apart }

-- A table that is not filled.
pub noughts : (k j : ℕ) → get_or (zeroes k) j 0 ≡ 0
noughts zero j = refl
noughts (suc k) zero = refl
noughts (suc k) (suc j) = noughts k j
