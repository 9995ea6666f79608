-- Routes by a test of all edges, a lookahead by its words, and two tests in turn.
use mathlib.Core.Path.{◌≡◌, ap, ◌∙◌}
use mathlib.Core.Bool.{Bool, true, false, ◌&&◌, ◌||◌}
use mathlib.Core.List.{List}
use Prim.Native.Nat.{ℕ, ◌+◌, ◌*◌}
use lib.Dec.{eqb}
use borrow.Author.Tests.{eq-eqb, ne_eqb}
use Rattle.types.specs.declared.SimDuration.{SimDuration}
use Rattle.types.specs.Value.{duration_of}
use Rattle.words.specs.Words.{tick_at}
use Rattle.records.specs.Records.{edge_at}
use Rattle.rules.specs.Base.{any}
use Rattle.rules.specs.State.{Edge}
use Rattle.rules.specs.Pending.{joins, route}
use Rattle.rules.specs.Foreign.{without_lookahead}

-- A route to itself, or along an edge.
pub route_self : (es : List Edge) (a b : ℕ) → a ≡ b → true ≡ route es a b
unfolding route
route_self es a b e = rw (eq-eqb a b e)

pub route_along : (es : List Edge) (a b : ℕ) (r : Bool) → (a ≡ b → ⊥) → r ≡ any (joins a b) es → r ≡ route es a b
unfolding route
route_along es a b r n e = rw (ne_eqb a b n) e

-- Edge i's lookahead is the duration d.
pub zero_lookahead : (w : List ℕ) (i : ℕ) (d : SimDuration) (r : Bool) → duration_of d ≡ tick_at w (6 * i + 2) → r ≡ eqb (duration_of d) 0 → r ≡ without_lookahead (edge_at w i)
unfolding edge_at
zero_lookahead w i d r e f = f ∙ ap (λ (k : ℕ). eqb k 0) e

-- Two tests in turn: the first decides, or the second does.
pub and_first : (a b : Bool) → a ≡ false → a ≡ a && b
and_first a b e = rw e

pub and_second : (a b : Bool) → a ≡ true → b ≡ a && b
and_second a b e = rw e

pub or_first : (a b : Bool) → a ≡ true → a ≡ a || b
or_first a b e = rw e

pub or_second : (a b : Bool) → a ≡ false → b ≡ a || b
or_second a b e = rw e
