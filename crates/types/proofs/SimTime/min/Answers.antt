use mathlib.Core.Path.{sym, ◌∙◌}
use native.Mathlib.Omega.{arith}
use borrow.Author.Tests.{ltb-true, ltb-false}
use Rattle.types.specs.Value.{ticks_of}
use Rattle.types.proofs.SimTime.min.Goals as goal

pub returns-then-lt : goal.returns-then-lt
returns-then-lt c =
    let a = c.args in
    omega (arith, ltb-true (ticks_of a.self) (ticks_of a.other) (sym c.lt.ensures ∙ c.if-lt.true))

pub returns-else-lt : goal.returns-else-lt
returns-else-lt c =
    let a = c.args in
    omega (arith, ltb-false (ticks_of a.self) (ticks_of a.other) (sym c.lt.ensures ∙ c.if-lt.false))
