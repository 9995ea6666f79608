use Rattle.std.proofs.Common.{◌-◌, ◌≤◌, length}
use Rattle.bench_rounds.proofs.call_all.Given as goal

abbrev pub invariant-loop-count : goal.invariant-loop-count
invariant-loop-count l = (l.calls ≤ l.at) × (l.at ≤ length l.words)

abbrev pub decreases-loop-count : goal.decreases-loop-count
decreases-loop-count l = length l.words - l.at
