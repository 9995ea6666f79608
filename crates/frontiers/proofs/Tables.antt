-- The pass over pending events: first ticks are set event by event, from the last to the first.
use mathlib.Core.Path.{◌≡◌, refl, ◌∙◌}
use mathlib.Core.Bool.{Bool, true, false}
use mathlib.Core.List.{List}
use Prim.Native.Nat.{ℕ, ◌+◌, ◌-◌, ◌*◌, ◌≤◌, ◌<◌}
use native.Mathlib.Omega.{arith}
use lib.Dec.{eqb}
use lib.ListN.{length, get_or}
use Rattle.types.specs.declared.SimTime.{SimTime}
use Rattle.types.specs.Value.{ticks_of}
use Rattle.words.specs.Words.{tab, tick_at, tick_of, put_tick, filled}
use Rattle.words.proofs.Tab.{tab_step, tab_none, tab_whole}
use Rattle.words.proofs.Ticks.{fill_at}
use Rattle.records.specs.Records.{event_at, events_of}
use Rattle.records.proofs.Stored.{event_to, event_tick}
use Rattle.rules.specs.Base.{if◌then◌otherwise◌, Maybe, some}
use Rattle.rules.specs.State.{Event}
use Rattle.rules.specs.Pending.{first_of, tick_or, first_tick}
use Rattle.frontiers.specs.Tables.{Changed, FirstTicks, FirstTickSet}
use Rattle.frontiers.proofs.Changing.{changed_put, changed_past}

-- First pending ticks.
module _ (pending w : List ℕ) (i : ℕ) where
  pub note_yes : (u : List ℕ) (b : SimTime) → get_or pending (8 * i) 0 < 64 → length w ≡ 128 → ticks_of b ≡ tick_at pending (8 * i + 1) → u ≡ put_tick w (2 * get_or pending (8 * i) 0) b → FirstTickSet (event_at pending i) w u
  note_yes u b h l eb eu = rw (event_to pending i, event_tick pending i) (changed_put w u (get_or pending (8 * i) 0) b (λ x. tick_at pending (8 * i + 1)) h l eb eu)

  pub note_no : 64 ≤ get_or pending (8 * i) 0 → FirstTickSet (event_at pending i) w w
  note_no h = rw (event_to pending i) (changed_past w (get_or pending (8 * i) 0) _ h)

push : (b : Bool) (e : Event) (m : Maybe Event) (d x : ℕ) → x ≡ tick_or m d → (if b then e.tick otherwise x) ≡ tick_or (if b then some e otherwise m) d
unfolding if◌then◌otherwise◌ tick_or
push true e m d x h = refl
push false e m d x h = h

module _ (pending : List ℕ) (m : ℕ) (w₀ : List ℕ) where
  -- The events from i on are passed.
  pub record Noting (i : ℕ) (w : List ℕ) : Type 0 where
    pub ticks : (p : ℕ) → p < 64 → tick_of w p ≡ first_tick (tab (event_at pending) i (m - i)) p (tick_of w₀ p)

  pub noting_start : Noting m w₀
  unfolding first_tick first_of tick_or
  noting_start = record { ticks = λ p h. rw (tab_none (event_at pending) m m (omega arith)) }

  pub noting_more : (i : ℕ) (w u : List ℕ) → 0 < i → i ≤ m → Noting i w → FirstTickSet (event_at pending (i - 1)) w u → Noting (i - 1) u
  unfolding first_tick first_of Changed
  noting_more i w u h l s c = record {
    ticks = λ p k. c p k ∙ rw (tab_step (event_at pending) i m h l) (push (eqb (event_at pending (i - 1)).destination p) (event_at pending (i - 1)) _ (tick_of w₀ p) _ (s.ticks p k));
  }

  pub noting_end : (n : ℕ) (v : List ℕ) (t : SimTime) (i : ℕ) (w : List ℕ) → n ≤ 64 → i ≤ 0 → w₀ ≡ filled n t v → Noting i w → FirstTicks n (events_of m pending) (ticks_of t) w
  unfolding FirstTicks
  noting_end n v t i w few o e s p h =
      let z : i ≡ 0 = omega arith in
      s.ticks p (omega arith) ∙ rw (tab_whole (event_at pending) i m z, e, fill_at n p t v h)
