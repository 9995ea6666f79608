-- For the code: a refresh after an advance raises no local horizon again, so they are written once.
use mathlib.Core.Path.{◌≡◌, refl, ap, ◌∙◌}
use mathlib.Core.Bool.{◌||◌}
use mathlib.Core.List.{List, [], ◌∷◌}
use Prim.Native.Nat.{ℕ, suc, min, max}
use native.Mathlib.Omega.{arith}
use lib.Dec.{ltb}
use Rattle.rules.specs.Base.{Maybe, none, some}
use Rattle.rules.specs.State.{Event, Edge, State, with_bounds}
use Rattle.rules.specs.Pending.{first_of, tick_or, first_tick}
use Rattle.rules.specs.Frontiers.{inbound_of, safe}
use Rattle.rules.specs.Refresh.{raised, refresh_to, gvt_of, refreshed}
use Rattle.rules.specs.Step.{input_frontier, any_raised, new_horizons}
use Rattle.rules.specs.InPlace.{with_edges, Raising, raise_bounds, progress_from, advanced_in_place}
use Rattle.rules.proofs.Fronts.{safe_le}

-- With or without a pending event, both rise to the same: a frontier is at most H.
lesser_same : (a H : ℕ) (m : Maybe Event) → min a H ≡ a → min a (tick_or m a) ≡ min a (tick_or m H)
unfolding tick_or
lesser_same a H none h = omega arith
lesser_same a H (some e) h = refl

pub refresh_is_frontier : (s : State) (H p : ℕ) → refresh_to s.inbound H s.pending p ≡ input_frontier s H p
unfolding refresh_to input_frontier first_tick
refresh_is_frontier s H p = lesser_same (safe s.inbound H p) H (first_of s.pending p) (omega (arith, safe_le s.inbound H p))

raised_again : (f g : ℕ → ℕ) → ((p : ℕ) → f p ≡ g p) → (i : ℕ) (hs : List ℕ) → raised f i (raised g i hs) ≡ raised g i hs
unfolding raised
raised_again f g e i [] = refl
raised_again f g e i (h ∷ hs) = let z : max (max h (g i)) (f i) ≡ max h (g i) = omega (arith, e i) in rw (z, raised_again f g e (suc i) hs)

-- What the advance in place (A.3) has come to, where the bounds es were written, k of them raised.
pub progress_once : (s : State) (h : ℕ) (es : List Edge) (k : ℕ) → raise_bounds s (suc h) ≡ record { now = with_edges s es; raised = k }
    → advanced_in_place s h ≡ record {
      state = with_bounds s es (inbound_of s.n es) (new_horizons s (suc h)) (gvt_of s.gvt h s.pending (new_horizons s (suc h)));
      raised = k;
      rose = ltb 0 k || any_raised s.horizons (new_horizons s (suc h));
    }
unfolding progress_from refreshed
progress_once s h es k e = ap (λ (r : Raising). progress_from r h) e ∙ rw (raised_again (refresh_to s.inbound (suc h) s.pending) (input_frontier (with_edges s es) (suc h)) (refresh_is_frontier (with_edges s es) (suc h)) 0 s.horizons) (unfold input_frontier in refl)

-- A refresh raises the local horizons to what an advance would.
raised_same : (f g : ℕ → ℕ) → ((p : ℕ) → f p ≡ g p) → (i : ℕ) (hs : List ℕ) → raised f i hs ≡ raised g i hs
unfolding raised
raised_same f g e i [] = refl
raised_same f g e i (h ∷ hs) = rw (e i, raised_same f g e (suc i) hs)

pub refreshed_once : (s : State) (h : ℕ) → refreshed s h s.edges s.inbound s.horizons ≡ with_bounds s s.edges s.inbound (new_horizons s (suc h)) (gvt_of s.gvt h s.pending (new_horizons s (suc h)))
unfolding refreshed
refreshed_once s h = rw (raised_same (refresh_to s.inbound (suc h) s.pending) (input_frontier s (suc h)) (refresh_is_frontier s (suc h)) 0 s.horizons)
