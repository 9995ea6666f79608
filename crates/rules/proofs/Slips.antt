-- Each holds by computation.
use mathlib.Core.Path.{refl}
use Rattle.rules.specs.Opened.{all_rules}
use Rattle.rules.specs.Rehearsals.{pair, one_way, carry_on, outs, answers, null_messages_counted}
use Rattle.rules.specs.Slips.{Reached, SlipsNoticed, two_into_one, chain, state_after, after}

pub reached_by_calls : Reached
unfolding all_rules pair chain state_after after
reached_by_calls = record { in_hand_reached = refl; poisoned_reached = refl; last_reached = refl; two_reached = refl; no_budget_reached = refl; chain_reached = refl }

pub slips_noticed : SlipsNoticed
unfolding all_rules pair one_way carry_on outs answers null_messages_counted state_after two_into_one chain
slips_noticed = record {
  part_of_a_round = λ c. refl;
  spent_without_refresh = refl;
  spent_in_step = λ c. refl;
  poisoned_first = λ c. refl;
  foreign_first = λ c. refl;
  malformed_kept = λ c. refl;
  emission_before_failure = λ c. refl;
  straggler = λ c. refl;
  no_straggler = refl;
  last_sequence_number = λ c. refl;
  three_taken = refl;
  bounds_alone = refl;
  bounds_alone_counted = refl;
  counters_stop = refl;
  wrong_record_holds = λ c. refl;
  record_built = refl;
  record_advanced = refl;
  behind_horizon = refl;
  bounds_at_once = refl;
  bounds_in_place = refl;
  bounds_read_anew = refl;
  chain_steps = refl;
  chain_null_messages = refl;
  short_list_first = refl;
}
