use Prim.Native.Nat.{◌≤◌}
use Rattle.plan_rows.specs.Rows.{table_rows, PutsRows}
use Rattle.plan_rows.proofs.write_rows.Given as goal

abbrev pub invariant-loop-q : goal.invariant-loop-q
invariant-loop-q l = (l.r ≤ l.q) × PutsRows l.initial.sources l.initial.counts 0 (table_rows l.n l.table l.q) l.sources l.counts l.r
