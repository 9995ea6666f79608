-- What a pass over the events gathers: the least tick, and whether they rise.
use mathlib.Core.Path.{◌≡◌, refl, sym, ap, ◌∙◌}
use mathlib.Core.Bool.{Bool, true, false}
use mathlib.Core.List.{List}
use Prim.Native.Nat.{ℕ, ◌+◌, ◌-◌, ◌*◌, ◌≤◌, ◌<◌, min}
use Rattle.types.specs.declared.SimTime.{SimTime}
use Rattle.types.specs.Value.{ticks_of}
use Rattle.words.specs.Words.{tab, tick_at}
use Rattle.words.proofs.Tab.{tab_cong, map_tab, tab_next, tab_none, tab_whole}
use Rattle.rules.specs.Base.{any, rising}
use Rattle.rules.specs.State.{Event}
use Rattle.rules.specs.Refresh.{least}
use Rattle.records.specs.declared.Record.{Record}
use Rattle.records.specs.Records.{event_of, record_in, event_at, events_of}
use Rattle.records.specs.Queue.{event_ticks}
use Rattle.records.proofs.Stored.{event_read, event_tick}
use Rattle.records.proofs.Passes.{Seeking, answer_passed, answer_found, Climbing, climbing_more, climbing_stop}

-- The least of m and f i, f (i + 1), .., those below n: a pass over any numbers.
module _ (f : ℕ → ℕ) (n : ℕ) where
  unfoldable pub least_from : ℕ → ℕ → ℕ
  least_from m i = least m (tab f i (n - i))

  pub least_more : (i : ℕ) (low t new : SimTime) (m : ℕ) → i < n → least_from (ticks_of low) i ≡ m → ticks_of t ≡ f i → ticks_of new ≡ min (ticks_of low) (ticks_of t) → least_from (ticks_of new) (i + 1) ≡ m
  unfolding least_from least
  least_more i low t new m h e p q =
      let x : ticks_of new ≡ min (ticks_of low) (f i) = q ∙ ap (min (ticks_of low)) p in
      rw x (rw (tab_next f i n h) at e)

  pub least_end : (i m k : ℕ) → n ≤ i → least_from k i ≡ least_from m 0 → k ≡ least m (tab f 0 n)
  unfolding least_from least
  least_end i m k h e = rw (tab_none f i n h, tab_whole f 0 n refl) at e

-- The ticks of all events.
pub ticks_end : (w : List ℕ) (n i m k : ℕ) → n ≤ i → least_from (λ j. tick_at w (8 * j + 1)) n k i ≡ least_from (λ j. tick_at w (8 * j + 1)) n m 0 → k ≡ least m (event_ticks (events_of n w))
ticks_end w n i m k h e =
    let t : event_ticks (events_of n w) ≡ tab (λ j. tick_at w (8 * j + 1)) 0 n = map_tab (λ (x : Event). x.tick) (event_at w) 0 n ∙ tab_cong _ _ 0 n (λ j a b. event_tick w j) in
    least_end (λ j. tick_at w (8 * j + 1)) n i m k h e ∙ ap (least m) (sym t)

-- Event i by its record r, against a rule: b is what a test answers of it.
module _ (rule : Event → Bool) (w : List ℕ) (n i : ℕ) (r : Record) (b : Bool) (h : i < n) (s : Seeking rule (event_at w) n i) (e : r ≡ record_in w (8 * i)) (q : b ≡ rule (event_of r)) where
  told : b ≡ rule (event_at w i)
  told = q ∙ sym (ap rule (event_read w i r e))

  pub event_passed : b ≡ false → Seeking rule (event_at w) n (i + 1)
  event_passed t = answer_passed rule (event_at w) n i h s b told t

  pub event_found : b ≡ true → true ≡ any rule (events_of n w)
  event_found t = answer_found rule (event_at w) n i h s b told t

-- The event in front of i by its record r, and event i by its record t.
module _ (rule : Event → Event → Bool) (w : List ℕ) (n i : ℕ) (r t : Record) (b : Bool) (p : 0 < i) (h : i < n) (s : Climbing rule (event_at w) n i)
    (e : r ≡ record_in w (8 * (i - 1))) (f : t ≡ record_in w (8 * i)) (q : b ≡ rule (event_of r) (event_of t)) where
  tested : rule (event_at w (i - 1)) (event_at w i) ≡ b
  tested = (λ k. rule (event_read w (i - 1) r e k) (event_read w i t f k)) ∙ sym q

  pub next_passed : b ≡ true → Climbing rule (event_at w) n (i + 1)
  next_passed g = climbing_more rule (event_at w) n i p h s (tested ∙ g)

  pub next_stops : b ≡ false → false ≡ rising rule (events_of n w)
  next_stops g = climbing_stop rule (event_at w) n i p h s (tested ∙ g)
