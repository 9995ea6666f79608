-- The pass that finds the first failed process.
use mathlib.Core.Path.{◌≡◌, refl, sym, ap, ◌∙◌}
use mathlib.Core.Bool.{Bool, true, false}
use mathlib.Core.List.{List}
use Prim.Native.Nat.{ℕ, ◌+◌, ◌-◌, ◌*◌, ◌≤◌, ◌<◌}
use native.Mathlib.Omega.{arith}
use lib.ListN.{get_or}
use Rattle.std.specs.Prelude.{Some, None}
use Rattle.types.specs.declared.LpId.{LpId}
use Rattle.types.specs.Value.{lp_id_of, id_of_word}
use Rattle.types.proofs.Ids.{id_of_small}
use Rattle.words.specs.Words.{tab}
use Rattle.words.proofs.Tab.{tab_next, tab_none, tab_whole}
use Rattle.rules.specs.Base.{if◌then◌otherwise◌}
use Rattle.rules.specs.HandBack.{failed}
use Rattle.records.specs.Records.{event_at, events_of, Owners}
use Rattle.records.proofs.Stored.{event_to}
use Rattle.hand_back_check.specs.EmissionRows.{first_failed}

module _ (B : List ℕ) (n mask : ℕ) where
  -- The events from i on are left.
  unfoldable pub Failing : ℕ → Type 0
  Failing i = first_failed mask (events_of n B) ≡ first_failed mask (tab (event_at B) i (n - i))

  pub failing_start : Failing 0
  unfolding Failing
  failing_start = rw (tab_whole (event_at B) 0 n refl)

  pub failing_end : (i : ℕ) → n ≤ i → Failing i → None ≡ first_failed mask (events_of n B)
  unfolding Failing first_failed
  failing_end i l f = sym (f ∙ rw (tab_none (event_at B) i n l))

  pub owner : Owners n B → (i : ℕ) → i < n → get_or B (8 * i) 0 < 64
  unfolding Owners
  owner o i l = rw (event_to B i) at (o i l)

  module _ (i : ℕ) (l : i < n) (f : Failing i) (x : Bool) (e : x ≡ failed mask (get_or B (8 * i) 0)) where
    this : failed mask (event_at B i).destination ≡ x
    this = ap (failed mask) (event_to B i) ∙ sym e

    pub failing_here : x ≡ true → Owners n B → (p : LpId) → lp_id_of p ≡ id_of_word (get_or B (8 * i) 0) → Some p ≡ first_failed mask (events_of n B)
    unfolding Failing first_failed if◌then◌otherwise◌
    failing_here t o p w =
        let s : (event_at B i).destination ≡ lp_id_of p = event_to B i ∙ sym (w ∙ id_of_small _ (omega (arith, owner o i l))) in
        sym (f ∙ rw (tab_next (event_at B) i n l, this, t) (λ j. Some (record { 0 = s j })))

    pub failing_more : x ≡ false → Failing (i + 1)
    unfolding Failing first_failed if◌then◌otherwise◌
    failing_more t = f ∙ rw (tab_next (event_at B) i n l, this, t)
