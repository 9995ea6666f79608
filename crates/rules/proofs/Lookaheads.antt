-- Each holds by computation.
use mathlib.Core.Path.{refl}
use Rattle.rules.specs.Opened.{all_rules}
use Rattle.rules.specs.Rehearsals.{carry_on, outs, answers, numbers, returned, rounds_counted, null_messages_counted}
use Rattle.rules.specs.Lookaheads.{LookaheadCases, fast_and_slow, fast_cycle, near_and_far, build_tells}

pub lookahead_cases : LookaheadCases
unfolding all_rules carry_on outs answers numbers returned rounds_counted null_messages_counted fast_and_slow fast_cycle near_and_far build_tells
lookahead_cases = record {
  bounds = refl;
  least_into_holds = refl;
  slow_sender_early = refl;
  slow_sender_late = refl;
  fast_committed = refl;
  fast_refused = refl;
  slow_refused = refl;
  slow_committed = refl;
  cycle = refl;
  cycle_rounds = refl;
  cycle_null_messages = refl;
  cycle_least = refl;
  no_edge_least = refl;
  near_committed = refl;
  far_overflows = refl;
  zero_refused = refl;
  unknown_first = refl;
  self_first = refl;
  twice_first = refl;
  before_unknown = refl;
  before_row = refl;
  row_first = refl;
  too_few = refl;
  too_many = refl;
  plan_first = refl;
  zero_foreign = λ c. refl;
}
