use Rattle.bits.specs.Bytes.{stream}
use Rattle.plan_file.specs.Plan.{Reply}
use Rattle.plan_replies.specs.Table.{Table}
use lib.ListN.{drop, length}
use mathlib.Core.List.{List}
use mathlib.Core.Path.{◌≡◌}
use Rattle.plan_replies.proofs.link_replies.Given as goal

abbrev pub invariant-loop-k : goal.invariant-loop-k
invariant-loop-k l = (rs : List Reply) → l.count ≡ length rs → Table (stream l.s) rs (drop l.count rs) l.count l.initial.table → Table (stream l.s) rs (drop l.k rs) l.k l.table
