-- Calls by their tags, and how many words they take.
use mathlib.Core.Path.{◌≡◌, refl, sym, ap, ◌∙◌}
use mathlib.Core.Logic.{⊎_elim}
use mathlib.Core.List.{List}
use Prim.Native.Nat.{ℕ, ◌+◌, ◌*◌, ◌≤◌, ◌<◌}
use native.Mathlib.Omega.{arith}
use lib.Dec.{eqb}
use lib.ListN.{length, get_or, get_or-eq_default}
use borrow.Author.Tests.{lt-ltb, le-ltb, ltb-false, ne_eqb, eqb-true, eqb-false}
use Rattle.std.specs.Prelude.{Option, None, Some, MatchOption}
use Rattle.rules.specs.Base.{if◌then◌otherwise◌}
use Rattle.rules.specs.Calls.{Call, AddInitial, Begin, Step}
use Rattle.rules.proofs.Tests.{by_test, by_bool}
use Rattle.types.specs.declared.LpId.{LpId}
use Rattle.types.specs.declared.SimTime.{SimTime}
use Rattle.types.specs.Value.{ticks_of, lp_id_of, id_of_word}
use Rattle.types.proofs.Halves.{lt_or_ge}
use Rattle.words.specs.Words.{tick_at}
use Rattle.records.specs.Records.{payload_of}
use Rattle.state.specs.View.{message_of}
use Rattle.call_words.specs.Decode.{Decoded, Nothing, Decodes, message_at, if_complete, hand_back_at, max_items, hand_back_in, decode, size, IsSizeOf, Sizes, call_of}

module _ (w : List ℕ) (at : ℕ) where
  broken : (k : Call) (n : ℕ) → length w < at + n → if_complete w at k n ≡ Nothing
  unfolding if_complete if◌then◌otherwise◌
  broken k n h = rw (lt-ltb (length w) (at + n) h)

  fits : (k : Call) (n : ℕ) → at + n ≤ length w → if_complete w at k n ≡ Decodes k n
  unfolding if_complete if◌then◌otherwise◌
  fits k n h = rw (le-ltb (length w) (at + n) h)

  pub size_broken : (n : ℕ) → length w < at + n → Sizes w at n 0
  size_broken n h k = sym (ap size (broken k n h))

  pub size_fits : (n : ℕ) → at + n ≤ length w → Sizes w at n n
  size_fits n h k = sym (ap size (fits k n h))

  -- By tag.
  tag_0 : get_or w at 0 ≡ 0 → decode w at ≡ if_complete w at (AddInitial (message_at w (at + 1))) 8
  unfolding decode if◌then◌otherwise◌
  tag_0 e = rw e

  tag_1 : get_or w at 0 ≡ 1 → decode w at ≡ if_complete w at (Begin (tick_at w (at + 1)) (get_or w (at + 3) 0)) 4
  unfolding decode if◌then◌otherwise◌
  tag_1 e = rw e

  tag_2 : get_or w at 0 ≡ 2 → decode w at ≡ if_complete w at Step 1
  unfolding decode if◌then◌otherwise◌
  tag_2 e = rw e

  tag_3 : get_or w at 0 ≡ 3 → decode w at ≡ hand_back_in w at (get_or w (at + 2) 0)
  unfolding decode if◌then◌otherwise◌
  tag_3 e = rw e

  module _ (n0 : get_or w at 0 ≡ 0 → ⊥) (n1 : get_or w at 0 ≡ 1 → ⊥) (n2 : get_or w at 0 ≡ 2 → ⊥) where
    tag_other : (get_or w at 0 ≡ 3 → ⊥) → decode w at ≡ Nothing
    unfolding decode if◌then◌otherwise◌
    tag_other n3 = rw (ne_eqb (get_or w at 0) 0 n0, ne_eqb (get_or w at 0) 1 n1, ne_eqb (get_or w at 0) 2 n2, ne_eqb (get_or w at 0) 3 n3)

    pub size_other : (get_or w at 0 ≡ 3 → ⊥) → size (decode w at) ≡ 0
    size_other n3 = ap size (tag_other n3)

  pub size_past : length w ≤ at → size (decode w at) ≡ 0
  size_past h = ap size (tag_0 (get_or-eq_default w 0 h)) ∙ sym (size_broken 8 (omega arith) _)

  -- What complete_size promises, of a call of n words.
  abbrev pub IsComplete : Option ℕ → ℕ → Type 0
  IsComplete r n = MatchOption r (Sizes w at n 0) (λ m. (m ≡ n) × Sizes w at n m)

  whole : (k : Call) (n : ℕ) (r : Option ℕ) → 0 < n → decode w at ≡ if_complete w at k n → IsComplete r n → IsSizeOf r (decode w at)
  whole k n None l e f = ap size e ∙ sym (f k)
  whole k n (Some m) l e f = let p : m ≡ n = f.0 in (omega arith, f.1 k ∙ sym (ap size e))

  pub size_0 : (r : Option ℕ) → get_or w at 0 ≡ 0 → IsComplete r 8 → IsSizeOf r (decode w at)
  size_0 r e = whole _ 8 r (omega arith) (tag_0 e)

  pub size_1 : (r : Option ℕ) → get_or w at 0 ≡ 1 → IsComplete r 4 → IsSizeOf r (decode w at)
  size_1 r e = whole _ 4 r (omega arith) (tag_1 e)

  pub size_2 : get_or w at 0 ≡ 2 → at < length w → 1 ≡ size (decode w at)
  size_2 e h = size_fits 1 (omega arith) _ ∙ sym (ap size (tag_2 e))

  pub size_3 : (r : Option ℕ) → get_or w at 0 ≡ 3 → IsSizeOf r (hand_back_in w at (get_or w (at + 2) 0)) → IsSizeOf r (decode w at)
  size_3 r e f = rw (tag_3 e) f

  -- Hand backs of n emissions.
  module _ (n : ℕ) where
    too_many : max_items < n → hand_back_in w at n ≡ Nothing
    unfolding hand_back_in if◌then◌otherwise◌
    too_many h = rw (lt-ltb max_items n h)

    not_too_many : n ≤ max_items → hand_back_in w at n ≡ if_complete w at (hand_back_at w at n) (3 + 8 * n)
    unfolding hand_back_in if◌then◌otherwise◌
    not_too_many h = rw (le-ltb max_items n h)

    pub back_too_many : max_items < n → size (hand_back_in w at n) ≡ 0
    back_too_many h = ap size (too_many h)

    pub back_broken : length w < at + (3 + 8 * n) → size (hand_back_in w at n) ≡ 0
    back_broken h = ⊎_elim back_too_many (λ (b : n ≤ max_items). ap size (not_too_many b) ∙ sym (size_broken (3 + 8 * n) h _)) (lt_or_ge max_items n)

    pub back_fits : n ≤ max_items → at + (3 + 8 * n) ≤ length w → 3 + 8 * n ≡ size (hand_back_in w at n)
    back_fits b h = size_fits (3 + 8 * n) h _ ∙ sym (ap size (not_too_many b))

  -- What holds of nothing and of every call of some words holds of what is decoded.
  each : (P : Decoded → Type 0) → P Nothing → ((k : Call) (n : ℕ) → 0 < n → P (if_complete w at k n)) → P (decode w at)
  unfolding decode hand_back_in
  each P f g = by_test P (λ _. g _ 8 (omega arith)) (λ _. by_test P (λ _. g _ 4 (omega arith)) (λ _. by_test P (λ _. g _ 1 (omega arith)) (λ _. by_test P (λ _. by_test P (λ _. f) (λ _. g _ (3 + 8 * get_or w (at + 2) 0) (omega arith))) (λ _. f))))

  -- A call takes some words, and they are there.
  pub record Sound (d : Decoded) : Type 0 where
    pub none : size d ≡ 0 → d ≡ Nothing
    pub there : 0 < size d → at + size d ≤ length w

  sound_nothing : Sound Nothing
  sound_nothing = record { none = λ _. refl; there = λ l. absurd (omega arith) }

  sound_whole : (k : Call) (n : ℕ) → 0 < n → Sound (if_complete w at k n)
  unfolding if_complete
  sound_whole k n h = by_test Sound (λ _. sound_nothing) (λ t. record { none = λ e. absurd (omega arith); there = λ _. ltb-false (length w) (at + n) t })

  pub sound : Sound (decode w at)
  sound = each Sound sound_nothing sound_whole

  -- Where one can be decoded, it is the one of its tag, and its words are there.
  pub record Stands (k : Call) (n : ℕ) : Type 0 where
    pub is : call_of (decode w at) ≡ k
    pub there : at + n ≤ length w

  whole_called : (k : Call) (n : ℕ) → 0 < size (if_complete w at k n) → call_of (if_complete w at k n) ≡ k
  unfolding if_complete
  whole_called k n = by_test (λ (d : Decoded). 0 < size d → call_of d ≡ k) (λ _ l. absurd (omega arith)) (λ _ _. refl)

  stands : (k : Call) (n : ℕ) → 0 < n → decode w at ≡ if_complete w at k n → 0 < size (decode w at) → Stands k n
  stands k n h e l =
      let m : 0 < size (if_complete w at k n) = rw (sym e) l in
      record { is = ap call_of e ∙ whole_called k n m; there = whole-there k n h m }
    where
      whole-there : (k : Call) (n : ℕ) → 0 < n → 0 < size (if_complete w at k n) → at + n ≤ length w
      whole-there k n h m = ⊎_elim (λ (b : length w < at + n). let z = size_broken n b k in absurd (omega arith)) (λ (b : at + n ≤ length w). b) (lt_or_ge (length w) (at + n))

  module _ (l : 0 < size (decode w at)) where
    pub inside : at < length w
    inside = ⊎_elim (λ (b : at < length w). b) (λ (b : length w ≤ at). let z = size_past b in absurd (omega arith)) (lt_or_ge at (length w))

    pub stands_0 : get_or w at 0 ≡ 0 → Stands (AddInitial (message_at w (at + 1))) 8
    stands_0 e = stands _ 8 (omega arith) (tag_0 e) l

    pub stands_1 : get_or w at 0 ≡ 1 → Stands (Begin (tick_at w (at + 1)) (get_or w (at + 3) 0)) 4
    stands_1 e = stands _ 4 (omega arith) (tag_1 e) l

    pub stands_2 : get_or w at 0 ≡ 2 → Stands Step 1
    stands_2 e = stands _ 1 (omega arith) (tag_2 e) l

    pub stands_3 : (get_or w at 0 ≡ 0 → ⊥) → (get_or w at 0 ≡ 1 → ⊥) → (get_or w at 0 ≡ 2 → ⊥) → Stands (hand_back_at w at (get_or w (at + 2) 0)) (3 + 8 * get_or w (at + 2) 0)
    stands_3 n0 n1 n2 = by_bool (eqb (get_or w at 0) 3)
        (λ t.
        let e = tag_3 (eqb-true (get_or w at 0) 3 t) in
        ⊎_elim
        (λ (b : max_items < get_or w (at + 2) 0). let z = ap size (e ∙ too_many (get_or w (at + 2) 0) b) in absurd (omega (arith, z, l)))
        (λ (b : get_or w (at + 2) 0 ≤ max_items). stands _ _ (omega arith) (e ∙ not_too_many (get_or w (at + 2) 0) b) l)
        (lt_or_ge max_items (get_or w (at + 2) 0)))
        (λ t. let z = size_other n0 n1 n2 (eqb-false (get_or w at 0) 3 t) in absurd (omega arith))

-- A message by its parts.
pub message_is : (w : List ℕ) (at : ℕ) (s d : LpId) (t : SimTime) → lp_id_of s ≡ id_of_word (get_or w at 0) → lp_id_of d ≡ id_of_word (get_or w (at + 1) 0) → ticks_of t ≡ tick_at w (at + 2)
    → message_of (record { source = s; destination = d; tick = t; len = get_or w (at + 4) 0; payload_hi = get_or w (at + 5) 0; payload_lo = get_or w (at + 6) 0 }) ≡ message_at w at
unfolding message_at
message_is w at s d t a b e = λ i. record { source = a i; destination = b i; tick = e i; payload = payload_of (get_or w (at + 4) 0) (get_or w (at + 5) 0) (get_or w (at + 6) 0) }
