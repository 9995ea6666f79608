-- Refresh: document 01, "Step and hand back", the paragraph that begins with this word.
use Rattle.std.specs.Prelude.{List, [], ◌∷◌, map, ℕ, suc, ◌-◌, min, max}
use Rattle.rules.specs.State.{Event, Edge, State, with_bounds}
use Rattle.rules.specs.Pending.{first_tick}
use Rattle.rules.specs.Frontiers.{safe}

-- The least of m and the numbers xs.
unfoldable pub least : ℕ → List ℕ → ℕ
least m [] = m
least m (x ∷ xs) = least (min m x) xs

-- Each h(p), p from i on, rises to what `to p` says.
unfoldable pub raised : (ℕ → ℕ) → ℕ → List ℕ → List ℕ
raised to i [] = []
raised to i (h ∷ hs) = max h (to i) ∷ raised to (suc i) hs

-- "h(p) rises to min(safe(p), first pending tick if any)"; m is the record that safe is read from.
unfoldable pub refresh_to : List ℕ → ℕ → List Event → ℕ → ℕ
refresh_to m H q p = min (safe m H p) (first_tick q p (safe m H p))

-- "GVT rises to the least of the horizon, all pending ticks and all h - 1 (0 for h = 0)."
unfoldable pub gvt_of : ℕ → ℕ → List Event → List ℕ → ℕ
gvt_of g horizon q hs = max g (least (least horizon (map (λ (e : Event). e.tick) q)) (map (λ h. h - 1) hs))

-- The edges es, their record m and the local horizons hs are those of the call so far; safe is read from the record of s: "in a step, safe is still the one from before the advance".
unfoldable pub refreshed : State → ℕ → List Edge → List ℕ → List ℕ → State
refreshed s horizon es m hs =
    let hs' = raised (refresh_to s.inbound (suc horizon) s.pending) 0 hs in
    with_bounds s es m hs' (gvt_of s.gvt horizon s.pending hs')
