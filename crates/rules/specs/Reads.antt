-- The four reads: document 01, "Reads and plan". They check 11 and nothing else, and leave state and counters as given.
use Rattle.std.specs.Prelude.{[], ◌∷◌, map, length}
use Rattle.rules.specs.State.{Event, State, Counters, max_tick}
use Rattle.rules.specs.Answers
use Rattle.rules.specs.Answers.{Reading, Gvt, Counted, Pending, Earliest, Read}
use Rattle.rules.specs.Rows.{◌⇒◌, unless, Out, out, refuse}
use Rattle.rules.specs.Foreign.{foreign}
use Rattle.rules.specs.Refresh.{least}

unfoldable pub read : State → Counters → Reading → Out
read s c r = unless ((foreign s ⇒ Answers.ForeignState) ∷ []) (refuse s c) (out (Read r) s c)

unfoldable pub read_gvt : State → Counters → Out
read_gvt s c = read s c (Gvt s.gvt)

-- The report's six counters, and `used`.
unfoldable pub read_counters : State → Counters → Out
read_counters s c = read s c (Counted c s.used)

-- "how many are pending"
unfoldable pub read_pending : State → Counters → Out
read_pending s c = read s c (Pending (length s.pending))

-- "earliest pending tick (added; the largest tick if none is pending)"
unfoldable pub read_earliest : State → Counters → Out
read_earliest s c = read s c (Earliest (least max_tick (map (λ (e : Event). e.tick) s.pending)))
