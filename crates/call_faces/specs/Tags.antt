-- The reads by their tags: docs/CALLS.md, 4 to 7.
use Rattle.std.specs.Prelude.{ℕ, eqb}
use Rattle.rules.specs.Base.{if◌then◌otherwise◌}
use Rattle.rules.specs.State.{State, Counters}
use Rattle.rules.specs.Rows.{Out}
use Rattle.rules.specs.Reads.{read_gvt, read_counters, read_pending, read_earliest}

-- The rule of the read with that tag; any other tag is taken for the last.
unfoldable pub read_by : ℕ → State → Counters → Out
read_by tag = if eqb tag 4 then read_gvt otherwise if eqb tag 5 then read_counters otherwise if eqb tag 6 then read_pending otherwise read_earliest
