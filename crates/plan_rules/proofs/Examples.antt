-- Each holds by computation.
use mathlib.Core.Path.{refl}
use Rattle.plan_rules.specs.Opened.{all_plans}
use Rattle.plan_rules.specs.Examples.{Examples}

pub examples : Examples
unfolding all_plans
examples = record {
  c1 = refl;
  c2 = refl;
  c3 = refl;
  c4 = refl;
  c5 = refl;
  c6 = refl;
  c6_refused = refl;
  c7 = refl;
  c7_refused = refl;
  c8 = refl;
  c8_accepted = refl;
  c9 = refl;
  c10 = refl;
  chain = refl;
  fast_and_slow = refl;
  slow_too_early = refl;
  fast_too_early = refl;
  edge_lookahead = refl;
  duplicate_first = refl;
  before_later_edge = refl;
  own_lookahead = refl;
  spent_at_hand_back = refl;
  long_payload_holds = refl;
  second_reply = refl;
  falling = refl;
  unknown_source = refl;
  unknown_later = refl;
  unknown_destination = refl;
  no_process = refl;
  too_long = refl;
  refused_first = refl;
  no_lookahead = refl;
  not_too_long = refl;
  plans_is_less = refl;
  first_is_least = refl;
  second_is_least = refl;
  without_edges = refl;
  printed_c1 = refl;
  no_slice = refl;
  short_slice = refl;
  whole_slice = refl;
  long_slice = refl;
  not_read = refl;
  not_looked_at = refl;
  cleared_39 = refl;
}
