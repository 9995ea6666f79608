-- The run of a plan, from what build makes: its host calls until it has no next call.
use Rattle.std.specs.Prelude.{ℕ, zero, suc, ◌+◌, ◌*◌, ◌/◌, length}
use Rattle.rules.specs.Base.{Maybe, none, some}
use Rattle.rules.specs.Calls.{Call, rule}
use Rattle.rules.specs.History.{History, empty_history, append_call}
use Rattle.plan_file.specs.Plan.{Plan}
use Rattle.plan_file.specs.Events.{event_count}
use Rattle.plan_rules.specs.Setup.{setup_of, least_lookahead_of}
use Rattle.plan_rules.specs.Host.{next}

-- The call that is next, if any, by document 01's rules.
unfoldable pub carried : History → Maybe Call → History
carried y none = y
carried y (some k) = append_call y k (rule y.now y.counters k)

unfoldable pub move : Plan → History → History
move p y = carried y (next p y.entries)

-- After k calls, or fewer where the host has ended.
unfoldable pub run : Plan → ℕ → History
run p zero = empty_history (setup_of p)
run p (suc k) = move p (run p k)

-- A number of calls that no run reaches. It need not be believed: `Ends` proves that after so many calls the host has no next one, and that to allow it more changes nothing.
-- The initial events and begin; two for each round, of which there are at most the file's events + floor(H / L) + 2; a batch and what ends the run.
unfoldable pub enough : Plan → ℕ
enough p = length p.initial + 1 + 2 * (event_count p + suc p.horizon / least_lookahead_of p + 2) + 2

-- The whole run.
unfoldable pub ran : Plan → History
ran p = run p (enough p)
