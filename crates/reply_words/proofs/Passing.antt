-- What each test answers, and the pass over the mask.
use mathlib.Core.Path.{◌≡◌, refl, sym, ap, ◌∙◌}
use mathlib.Core.Bool.{Bool, true, false, not, ◌&&◌, ◌||◌, and_comm, or-true, or-false}
use mathlib.Core.List.{List}
use Prim.Native.Nat.{ℕ, zero, suc, ◌+◌, ◌-◌, ◌/◌, ◌^◌, ◌≤◌, ◌<◌}
use native.Mathlib.Nat.{pow-suc, div-div-eq-div-mul}
use native.Mathlib.Omega.{arith}
use lib.Dec.{ltb}
use lib.ListN.{length, get_or}
use borrow.Author.Tests.{lt-ltb, le-ltb, eq-eqb, ne_eqb}
use Rattle.types.specs.Value.{lp_id_of}
use Rattle.rules.specs.Base.{up_from, up_to, any, any_of}
use Rattle.rules.specs.State.{Event}
use Rattle.rules.specs.HandBack.{failed, in_batch}
use Rattle.records.proofs.Stored.{length_payload}
use Rattle.reply_words.specs.declared.Emission.{Emission}
use Rattle.reply_words.specs.Emissions.{emission_of}
use Rattle.reply_words.specs.Replies.{Places, failed_without_event, failed_not_in_batch, malformed_emission, FailedWithoutEvent, FailedNotInBatch, MalformedEmission}
use Rattle.reply_words.proofs.Table.{absent, past_end}

module _ (mask : ℕ) (t : List ℕ) where
  -- Whether p is in the batch, by its place.
  missing : (q : List Event) (p : ℕ) → Places q t → get_or t p 0 ≡ 0 → not (in_batch q p) ≡ true
  missing q p h z = absent q t p h ∙ eq-eqb (get_or t p 0) 0 z

  present : (q : List Event) (p : ℕ) → Places q t → (get_or t p 0 ≡ 0 → ⊥) → not (in_batch q p) ≡ false
  present q p h n = absent q t p h ∙ ne_eqb (get_or t p 0) 0 n

  -- Of the mask.
  pub failed_in : (p : ℕ) → (get_or t p 0 ≡ 0 → ⊥) → FailedWithoutEvent mask t p false
  unfolding FailedWithoutEvent
  failed_in p n q h = sym (ap (λ (b : Bool). failed mask p && b) (present q p h n) ∙ and_comm (failed mask p) false)

  pub failed_out : (p : ℕ) (r : Bool) → (get_or t p 0 ≡ 0) → r ≡ failed mask p → FailedWithoutEvent mask t p r
  unfolding FailedWithoutEvent
  failed_out p r z e q h = e ∙ sym (ap (λ (b : Bool). failed mask p && b) (missing q p h z) ∙ and_comm (failed mask p) true)

  -- The processes from p on are left.
  unfoldable pub Scanning : ℕ → Type 0
  Scanning p = (q : List Event) → Places q t → failed_not_in_batch q mask ≡ any (failed_without_event q mask) (up_from p (64 - p))

  pub scanning_start : Scanning 0
  unfolding Scanning failed_not_in_batch up_to
  scanning_start q h = refl

  scanning_step : (q : List Event) (p : ℕ) → p < 64 → any (failed_without_event q mask) (up_from p (64 - p)) ≡ failed_without_event q mask p || any (failed_without_event q mask) (up_from (p + 1) (64 - (p + 1)))
  unfolding up_from any
  scanning_step q p l =
      let s : 64 - p ≡ suc (64 - (p + 1)) = omega arith in
      let a : p + 1 ≡ suc p = omega arith in
      rw s (rw a)

  pub scanning_more : (p : ℕ) (r : Bool) → p < 64 → Scanning p → FailedWithoutEvent mask t p r → r ≡ false → Scanning (p + 1)
  unfolding Scanning FailedWithoutEvent
  scanning_more p r l f s z q h = f q h ∙ scanning_step q p l ∙ rw (sym (s q h) ∙ z)

  pub scanning_stop : (p : ℕ) (r : Bool) → p < 64 → Scanning p → FailedWithoutEvent mask t p r → r ≡ true → FailedNotInBatch mask t true
  unfolding Scanning FailedWithoutEvent FailedNotInBatch
  scanning_stop p r l f s z q h = sym (f q h ∙ scanning_step q p l ∙ rw (sym (s q h) ∙ z))

  -- No process from p on failed.
  none_left : (q : List Event) (n p : ℕ) → mask / 2 ^ p ≡ 0 → any (failed_without_event q mask) (up_from p n) ≡ false
  unfolding up_from any failed
  none_left q zero p h = refl
  none_left q (suc n) p h =
      let z : mask / 2 ^ suc p ≡ 0 = rw (pow-suc 2 p, ← div-div-eq-div-mul mask (2 ^ p) 2, h) in
      rw h (none_left q n (suc p) z)

  pub scanning_rest : (p : ℕ) → mask / 2 ^ p ≡ 0 → Scanning p → FailedNotInBatch mask t false
  unfolding Scanning FailedNotInBatch
  scanning_rest p z f q h = sym (f q h ∙ none_left q (64 - p) p z)

  pub scanning_end : (p : ℕ) → 64 ≤ p → Scanning p → FailedNotInBatch mask t false
  unfolding Scanning FailedNotInBatch up_from any
  scanning_end p l f q h = let z : 64 - p ≡ 0 = omega arith in sym (f q h ∙ rw z)

  -- Of one emission, whose emitter is p.
  module _ (last : ℕ) (e : Emission) (p : ℕ) (same : p ≡ lp_id_of e.emitter) where
    pub malformed_fallen : p < last → MalformedEmission mask t last (emission_of e) true
    unfolding MalformedEmission malformed_emission any_of any
    malformed_fallen l q h = rw (← same, lt-ltb p last l)

    pub malformed_unknown : get_or t p 0 ≡ 0 → MalformedEmission mask t last (emission_of e) true
    unfolding MalformedEmission malformed_emission any_of any
    malformed_unknown z q h = rw (← same, missing q p h z, or-true)

    pub malformed_past : length t ≡ 64 → 64 ≤ p → MalformedEmission mask t last (emission_of e) true
    malformed_past l b = malformed_unknown (past_end t p l b)

    pub malformed_failed : (r : Bool) → r ≡ failed mask p → r ≡ true → MalformedEmission mask t last (emission_of e) true
    unfolding MalformedEmission malformed_emission any_of any
    malformed_failed r s z q h = rw (← same, sym s ∙ z, or-true, or-true)

    pub malformed_long : (r : Bool) → last ≤ p → (get_or t p 0 ≡ 0 → ⊥) → r ≡ failed mask p → r ≡ false → MalformedEmission mask t last (emission_of e) (ltb 16 e.len)
    unfolding MalformedEmission malformed_emission any_of any
    malformed_long r l n s z q h = rw (← same, le-ltb p last l, present q p h n, sym s ∙ z, length_payload) (sym (or-false _))
