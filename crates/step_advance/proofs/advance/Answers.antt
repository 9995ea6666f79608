use borrow.Author.Tests.{lt-ltb, le-ltb}
use Rattle.step_advance.proofs.Advancing.{advance_is}
use Rattle.step_advance.proofs.advance.Goals as goal

pub returns-then-raised-gt0 : goal.returns-then-raised-gt0
returns-then-raised-gt0 c =
    advance_is c.args.head _ _ _ _ _ _ _ c.refresh-refreshed.result _ _ c.requires.0 c.requires.2 c.refresh-refreshed.ensures c.raise_bounds-raised.ensures (rw (lt-ltb _ _ c.if-raised-gt0.true))

pub returns-else-raised-gt0 : goal.returns-else-raised-gt0
returns-else-raised-gt0 c =
    advance_is c.args.head _ _ _ _ _ _ _ c.refresh-refreshed.result _ _ c.requires.0 c.requires.2 c.refresh-refreshed.ensures c.raise_bounds-raised.ensures (rw (le-ltb _ _ c.if-raised-gt0.false))
