-- Turn after turn until the host has no next call.
use mathlib.Core.Path.{◌≡◌, sym}
use mathlib.Core.Bool.{Bool, true, false}
use mathlib.Core.List.{List}
use Prim.Native.Nat.{ℕ, ◌-◌, ◌<◌}
use native.Mathlib.Omega.{arith}
use lib.Dec.{ltb}
use borrow.Author.Tests.{ltb-true, ltb-false}
use Rattle.types.specs.Value.{ticks_of}
use Rattle.rules.specs.State as R
use Rattle.rules.proofs.Tests.{by_bool}
use Rattle.plan_rules.specs.Run.{enough}
use Rattle.plan_rules.specs.Listing.{end_line}
use Rattle.plan_rules.proofs.Ends.{ends}
use Rattle.plan_text.specs.Appends.{Appends, Finishes}
use Rattle.plan_text.proofs.Appending.{listed_more}
use Rattle.plan_text.proofs.Finished.{finished}
use Rattle.plan_round.specs.declared.Turn.{Turn}
use Rattle.plan_round.specs.Reached.{plan_of, Stepping}
use Rattle.plan_round.specs.Turns.{Came, Turns}
use Rattle.state.specs.Numbers.{number_of}
use Rattle.state.specs.declared.Header.{Header}
use Rattle.state.specs.declared.Counters.{Counters}
use Rattle.plan_run.specs.Ends.{Ended, GoesOn, EndsWith}

module _ (s : List ℕ) (t : Turn) (E Q Z B w y l : List ℕ) (i : Came s t E Q Z B w y l) (g : Bool) (k : GoesOn t g) where
  -- A turn is next, and it brings the run nearer to its end.
  module _ (e : g ≡ true) where
    pub steps : Stepping s t.calls t.head t.counters E Q Z B w y l t.at
    steps = i.goes (k.yes_call e).0 (k.yes_call e).1

    pub nearer : (r : Turn) (E' Q' Z' B' w' y' l' : List ℕ) → Turns s t.calls r E' Q' Z' B' w' y' l' → enough (plan_of s) - r.calls < enough (plan_of s) - t.calls
    nearer r E' Q' Z' B' w' y' l' x = omega (arith, x.later, (ends (plan_of s) R.zeros i.reached.accepted).short t.calls _ steps.next_is)

  pub ended : g ≡ false → Ended s t E Q Z B l
  ended e = record {
    reached = i.reached;
    listed = i.listed;
    number = i.number;
    over = by_bool (ltb 0 (number_of t.answer)) (λ x. i.stops (ltb-true 0 (number_of t.answer) x)) (λ x. i.closes (k.refused e (λ z. let f = ltb-false 0 (number_of t.answer) x in absurd (omega arith))));
  }

-- The last line, and zeros behind it.
pub ends_with : (start k : ℕ) (h : Header) (c : Counters) (old new : List ℕ) (at : ℕ) (last : List ℕ) (r : Bool) → Appends old start (end_line k (ticks_of h.gvt) c.rounds c.null_messages) new at → Finishes new at last r → EndsWith start k h c old last r
ends_with start k h c old new at last r a f ls i = rw (sym a.same) (finished new last _ at r (listed_more old new ls _ start at i a) f)
