-- What record and first ticks say together, in the words of the rules: w is the table of the processes, f has the first pending ticks or H.
use Rattle.std.specs.Prelude.{◌≡◌, ◌≢◌, Bool, ◌||◌, List, ℕ, ◌<◌, min, max, ltb}
use Rattle.types.specs.Value.{ticks_of}
use Rattle.words.specs.Words.{tick_of, ticks_in, horizons_of, inbound_at, inbounds_of}
use Rattle.rules.specs.Base.{up_to}
use Rattle.rules.specs.State.{Event}
use Rattle.rules.specs.Frontiers.{any_eligible}
use Rattle.rules.specs.Refresh.{least, raised}
use Rattle.rules.specs.Step.{any_raised}
use Rattle.inbound.specs.Inbound.{frontier_in}
use Rattle.frontiers.specs.Tables.{FirstTicks}
use Rattle.frontiers.specs.declared.Raised.{Raised}

-- "min(safe(p), first pending tick or H)".
abbrev pub lesser : List ℕ → ℕ → List ℕ → ℕ → ℕ
lesser w H f p = min (frontier_in w H p) (tick_of f p)

-- From w to u, the horizon of process i rises, and all other ticks stay; r is what b becomes by it.
pub record RaisedHorizon (i : ℕ) (f : List ℕ) (H : ℕ) (b : Raised) (w u : List ℕ) (r : Raised) : Type 0 where
  pub here : tick_of u i ≡ max (tick_of w i) (lesser w H f i)
  pub others : (k : ℕ) → k ≢ i → tick_of u k ≡ tick_of w k
  pub rose : r.rose ≡ (ltb (tick_of w i) (tick_of u i) || b.rose)
  pub tick : ticks_of r.tick ≡ min (ticks_of b.tick) (tick_of f i)
  pub horizon : ticks_of r.horizon ≡ min (ticks_of b.horizon) (tick_of u i)

-- The same of the first n; the record stays; the least are at most H.
pub record RaisedHorizons (n : ℕ) (f : List ℕ) (H : ℕ) (w u : List ℕ) (r : Raised) : Type 0 where
  pub horizons : horizons_of n u ≡ raised (lesser w H f) 0 (horizons_of n w)
  pub inbound : (p : ℕ) → inbound_at u p ≡ inbound_at w p
  pub rose : r.rose ≡ any_raised (horizons_of n w) (horizons_of n u)
  pub tick : ticks_of r.tick ≡ least H (ticks_in n f)
  pub horizon : ticks_of r.horizon ≡ least H (horizons_of n u)

-- The table u holds the input frontiers of the first n processes.
unfoldable pub ReadsFrontiers : ℕ → ℕ → List ℕ → List ℕ → List ℕ → Type 0
ReadsFrontiers n H w f u = (p : ℕ) → p < n → tick_of u p ≡ lesser w H f p

-- "an event is eligible": where f has the first ticks of these events, r is the rule's answer for the first n processes.
unfoldable pub Eligible : ℕ → ℕ → List ℕ → List ℕ → Bool → Type 0
Eligible n H w f r = (q : List Event) → FirstTicks n q H f → r ≡ any_eligible (inbounds_of n w) H q (up_to n)
