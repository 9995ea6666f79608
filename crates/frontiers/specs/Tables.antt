-- What the leaves over tables of ticks promise, in the words of the rules.
use Rattle.std.specs.Prelude.{◌≡◌, List, ℕ, ◌+◌, ◌<◌, min, ltb, eqb}
use Rattle.words.specs.Words.{tick_of}
use Rattle.rules.specs.Base.{if◌then◌otherwise◌}
use Rattle.rules.specs.State.{Event, max_tick}
use Rattle.rules.specs.Pending.{first_tick}

-- From w to u, the tick of process d becomes what f makes of it, and the others stay.
unfoldable pub Changed : ℕ → (ℕ → ℕ) → List ℕ → List ℕ → Type 0
Changed d f w u = (p : ℕ) → p < 64 → tick_of u p ≡ (if eqb d p then f (tick_of w p) otherwise tick_of w p)

-- The table w holds the first pending tick of the first n processes, or d.
unfoldable pub FirstTicks : ℕ → List Event → ℕ → List ℕ → Type 0
FirstTicks n q d w = (p : ℕ) → p < n → tick_of w p ≡ first_tick q p d

-- The event's destination gets its tick.
abbrev pub FirstTickSet : Event → List ℕ → List ℕ → Type 0
FirstTickSet e w u = Changed e.destination (λ (x : ℕ). e.tick) w u

-- "min(H, .. + L), or to H on overflow": what the bounds from a process rise to whose .. is a.
unfoldable pub capped : ℕ → ℕ → ℕ → ℕ
capped H L a = if ltb max_tick (a + L) then H otherwise min H (a + L)
