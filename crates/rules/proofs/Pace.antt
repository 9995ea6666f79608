-- Rounds and null messages are few: the counts that show it, how they fit the state, and what follows.
use mathlib.Core.Path.{◌≡◌, refl, sym, ap}
use mathlib.Core.Bool.{Bool, true, false}
use mathlib.Core.List.{List, [], ◌∷◌}
use Prim.Native.Nat.{ℕ, suc, ◌+◌, ◌-◌, ◌*◌, ◌/◌, ◌≤◌, ◌<◌, min, max}
use native.Mathlib.Omega.{arith}
use native.Mathlib.Nat.{le-div_iff_mul-le, mul-le-mul_left, le_of_mul-le-mul_right}
use lib.Dec.{leb}
use lib.ListN.{length}
use borrow.Author.Tests.{leb-true, leb-false, le-leb}
use Rattle.rules.specs.Base.{if◌then◌otherwise◌, count, every}
use Rattle.rules.specs.State.{Edge, Stored, unset, stored, State, Counters}
use Rattle.rules.specs.History.{Entry, History, is_advanced, commits, R, H, handled, rounds, null_message_count}
use Rattle.rules.proofs.Tests.{not_both}
use Rattle.rules.proofs.Lists.{All}
use Rattle.rules.proofs.Fronts.{lowest, low_cap, LooksFrom}

-- Advanced answers in which a bound rose, and those in which none did.
unfoldable pub sends : List Entry → ℕ
sends [] = 0
sends (e ∷ es) = (if is_advanced e.answer then min e.raises 1 otherwise 0) + sends es

unfoldable pub lifts : List Entry → ℕ
lifts [] = 0
lifts (e ∷ es) = (if is_advanced e.answer then 1 - e.raises otherwise 0) + lifts es

-- What is counted over a list of calls.
pub record Counts : Type 0 where
  pub runs : ℕ
  pub end : ℕ
  pub handled : ℕ
  pub commits : ℕ
  pub advances : ℕ
  pub null_messages : ℕ
  pub sends : ℕ
  pub lifts : ℕ

unfoldable pub counts_of : List Entry → Counts
counts_of es = record { runs = R es; end = H es; handled = handled es; commits = count commits es; advances = count (λ e. is_advanced e.answer) es; null_messages = null_message_count es; sends = sends es; lifts = lifts es }

-- One above the stored horizon, 0 if none.
unfoldable pub end_of : Stored → ℕ
end_of unset = 0
end_of (stored h b) = suc h

-- The least bound, or where there is no edge the end.
abbrev pub front : ℕ → ℕ → List Edge → ℕ
front E L es = lowest es (max E L)

-- How the counts fit the lookahead, the edges, the local horizons and the stored horizon. Each send but one for each run raised the front by the lookahead; of the lifts there is at most one for each run.
pub record Pace (k : Counts) (L : ℕ) (es : List Edge) (hs : List ℕ) (l : Stored) : Type 0 where
  pub end : k.end ≡ end_of l
  pub sent : (k.sends + 1) * L ≤ front k.end L es + k.runs * L
  pub sending : front k.end L es < k.end → (k.sends + 2) * L ≤ front k.end L es + k.runs * L
  pub lifted : k.lifts ≤ k.runs
  pub lifting : every (leb k.end) hs ≡ false → k.lifts + 1 ≤ k.runs
  pub null_messages : k.null_messages ≤ length es * k.sends
  pub advances : k.advances ≡ k.sends + k.lifts
  pub commits : k.commits ≤ k.handled
  pub looks : All (LooksFrom L) es

-- L is at most every edge's lookahead.
unfoldable pub Paced : ℕ → History → Type 0
Paced L y = Pace (counts_of y.entries) L y.now.edges y.now.horizons y.now.stored

-- The sends are few.
sends_far : (d S L F E R : ℕ) → 0 < L → (S + 1) * L ≤ F + R * L → F ≤ E → S + 1 ≡ d + R → S ≤ E / L + R
sends_far d S L F E R l h k e =
    let m : (S + 1) * L ≡ (d + R) * L = ap (λ (x : ℕ). x * L) e in
    let q : d ≤ E / L = (le-div_iff_mul-le l).1 (omega arith) in
    omega arith

sends_few : (S L F E R : ℕ) → 0 < L → (S + 1) * L ≤ F + R * L → F ≤ max E L → S ≤ E / L + R
sends_few S L F E R l h k = go (leb L E) refl (leb R S) refl
  where
    go : (t : Bool) → leb L E ≡ t → (u : Bool) → leb R S ≡ u → S ≤ E / L + R
    go true e true d = sends_far (S + 1 - R) S L F E R l h (omega (arith, leb-true L E e)) (omega (arith, leb-true R S d))
    go true e false d = omega (arith, leb-false R S d)
    go false e u d =
        let m : S * L ≤ R * L = omega (arith, leb-false L E e) in
        let q : S ≤ R = le_of_mul-le-mul_right m l in
        omega arith

module _ (k : Counts) (L : ℕ) (es : List Edge) (hs : List ℕ) (l : Stored) (p : 0 < L) (i : Pace k L es hs l) where
  pace_sends : k.sends ≤ k.end / L + k.runs
  pace_sends = sends_few k.sends L (front k.end L es) k.end k.runs p i.sent (low_cap es (max k.end L))

  pace_null_messages : k.null_messages ≤ length es * (k.end / L + k.runs)
  pace_null_messages = omega (arith, i.null_messages, mul-le-mul_left (length es) pace_sends)

  pace_rounds : k.commits + k.advances ≤ k.handled + k.end / L + 2 * k.runs
  pace_rounds = omega (arith, pace_sends, i.advances, i.lifted, i.commits)

-- Null messages are at most E x (floor(H / L) + R).
pub few_null_messages : (L : ℕ) (y : History) → 0 < L → Paced L y → null_message_count y.entries ≤ length y.now.edges * (H y.entries / L + R y.entries)
unfolding Paced counts_of
few_null_messages L y l i = pace_null_messages (counts_of y.entries) L y.now.edges y.now.horizons y.now.stored l i

-- Rounds are at most handled + floor(H / L) + 2 x R.
pub few_rounds : (L : ℕ) (y : History) → 0 < L → Paced L y → rounds y.entries ≤ handled y.entries + H y.entries / L + 2 * R y.entries
unfolding Paced counts_of rounds
few_rounds L y l i = pace_rounds (counts_of y.entries) L y.now.edges y.now.horizons y.now.stored l i

-- What build makes: every bound is its edge's lookahead, nothing is counted.
abbrev pub AtLookahead : Edge → Type 0
AtLookahead e = e.bound ≡ e.lookahead

all_zero : (hs : List ℕ) → every (leb 0) hs ≡ true
unfolding every
all_zero [] = refl
all_zero (h ∷ hs) = rw (le-leb 0 h (omega arith)) (all_zero hs)

low_start : (L : ℕ) (es : List Edge) (c : ℕ) → L ≤ c → All AtLookahead es → All (LooksFrom L) es → L ≤ lowest es c
unfolding lowest
low_start L [] c h i j = h
low_start L (e ∷ es) c h i j = omega (arith, low_start L es c h i.1 j.1, i.0, j.0)

pace_none : (L : ℕ) (es : List Edge) (hs : List ℕ) (l : Stored) → l ≡ unset → All AtLookahead es → All (LooksFrom L) es → Pace (counts_of []) L es hs l
unfolding counts_of R H handled count null_message_count sends lifts end_of
pace_none L es hs l u b j = record {
  end = sym (ap end_of u);
  sent = omega (arith, low_start L es (max 0 L) (omega arith) b j);
  sending = λ h. absurd (omega arith);
  lifted = omega arith;
  lifting = λ h. not_both (all_zero hs) h;
  null_messages = omega arith;
  advances = refl;
  commits = omega arith;
  looks = j;
}

pub paced_built : (L : ℕ) (s : State) (c : Counters) → s.stored ≡ unset → All AtLookahead s.edges → All (LooksFrom L) s.edges → Paced L (record { entries = []; now = s; counters = c })
unfolding Paced
paced_built L s c u b j = pace_none L s.edges s.horizons s.stored u b j
