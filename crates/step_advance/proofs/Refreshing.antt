-- The leaves of a refresh, put together.
use mathlib.Core.Path.{◌≡◌, refl, sym, ap, ◌∙◌}
use mathlib.Core.List.{List, [], ◌∷◌}
use Prim.Native.Nat.{ℕ, suc, ◌+◌, ◌-◌, ◌<◌, min, max}
use native.Mathlib.Omega.{arith}
use lib.ListN.{length}
use Rattle.types.specs.declared.SimTime.{SimTime}
use Rattle.types.specs.Value.{ticks_of}
use Rattle.words.specs.Words.{tick_of, ticks_in, horizons_of, inbounds_of}
use Rattle.words.proofs.Tab.{length_tab, tab_cong}
use Rattle.rules.specs.State.{State}
use Rattle.rules.specs.Refresh.{least, raised}
use Rattle.rules.specs.Step.{input_frontier, new_horizons}
use Rattle.rules.proofs.Shape.{Queued}
use Rattle.inbound.proofs.Recording.{safe_in}
use Rattle.frontiers.specs.Tables.{FirstTicks}
use Rattle.frontiers.specs.declared.Raised.{Raised}
use Rattle.frontiers.specs.InputFrontiers.{lesser, RaisedHorizons}
use Rattle.frontiers.proofs.Gathered.{gvt_is}
use Rattle.step_advance.specs.Refreshes.{RefreshesTo, Refreshes}

raised_cong : (f g : ℕ → ℕ) (i : ℕ) (hs : List ℕ) → ((p : ℕ) → p < i + length hs → f p ≡ g p) → raised f i hs ≡ raised g i hs
unfolding raised
raised_cong f g i [] e = refl
raised_cong f g i (h ∷ hs) e = rw (e i (omega arith), raised_cong f g (suc i) hs (λ p l. e p (omega arith)))

module _ (n g H : ℕ) (Z F Z' : List ℕ) (b : Raised) (before floor gvt : SimTime)
    (up : RaisedHorizons n F H Z Z' b)
    (be : ticks_of before ≡ ticks_of b.horizon - 1)
    (fl : ticks_of floor ≡ min (ticks_of b.tick) (ticks_of before))
    (gv : ticks_of gvt ≡ max g (ticks_of floor)) where
  module _ (s : State) (horizon : ℕ) (en : s.n ≡ n) (eg : s.gvt ≡ g) (ez : s.horizons ≡ horizons_of n Z) (ei : s.inbound ≡ inbounds_of n Z) (eh : H ≡ suc horizon) (q : Queued n s.next s.pending) (t : FirstTicks n s.pending H F) where
    firsts : FirstTicks n s.pending (suc horizon) F
    firsts = rw eh at t

    risen : horizons_of n Z' ≡ new_horizons s (suc horizon)
    unfolding input_frontier FirstTicks
    risen =
        let k = length_tab (tick_of Z) 0 n in
        up.horizons
        ∙ raised_cong (lesser Z H F) (input_frontier s (suc horizon)) 0 (horizons_of n Z) (λ p l. let h : p < n = omega arith in rw (ei, safe_in n (suc horizon) p Z h, ← firsts p h, eh))
        ∙ ap (raised (input_frontier s (suc horizon)) 0) (sym ez)

    lowest : ticks_of floor ≡ min (least (suc horizon) (ticks_in n F)) (least (suc horizon) (new_horizons s (suc horizon)) - 1)
    lowest = fl ∙ rw (be, up.tick, up.horizon, eh, risen)

    rises : RefreshesTo s horizon (record { gvt = gvt; rose = b.rose }) (horizons_of n Z')
    rises = record {
      horizons = risen;
      gvt = gv ∙ rw (← eg, lowest) (sym (gvt_is n horizon s.pending F q.order q.known firsts s.gvt (new_horizons s (suc horizon))));
      rose = up.rose ∙ rw (← ez, risen);
    }

  pub refreshes : Refreshes n g H Z F (record { gvt = gvt; rose = b.rose }) Z'
  refreshes = record { rises = rises; record_kept = tab_cong _ _ 0 n (λ p _ _. up.inbound p) }
