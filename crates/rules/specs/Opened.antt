-- One name that opens all rules, for whatever computes: `unfolding all_rules`.
use Rattle.std.specs.Prelude.{ℕ}
use Rattle.rules.specs.Base.{if◌then◌otherwise◌, is_some, up_from, up_to, any, any_of, every, member, non_empty, sum, count, rising}
use Rattle.rules.specs.Answers.{refusal_number, refusal_values, reading_values, event_values, number, values}
use Rattle.rules.specs.Rows.{unless}
use Rattle.rules.specs.Build.{missing, unexpected, malformed_rows, targets, least_lookahead, least_without_row, destination_rows, topology_rows, edges_of, built, build}
use Rattle.rules.specs.Pending.{before, insert, first_of, without_first, tick_or, first_tick, queue, route, lookahead_along}
use Rattle.rules.specs.Frontiers.{least_into, inbound_of, safe, below, eligible, any_eligible}
use Rattle.rules.specs.Foreign.{over_limit, unknown_id, duplicate_or_self_edges, horizon_is_max, is_unset, wrong_record, foreign}
use Rattle.rules.specs.Initial.{add_initial}
use Rattle.rules.specs.Begin.{previous, begin}
use Rattle.rules.specs.Refresh.{least, raised, refresh_to, gvt_of, refreshed}
use Rattle.rules.specs.Step.{take_eligible_at, take_eligible, input_frontier, new_bound, raised_edges, count_raised, any_raised, any_advanced, complete, advance, step_run, step_at, step}
use Rattle.rules.specs.InPlace.{nth_edge, set_bound, raise_bound, raise_bound_at, raise_each, raise_bounds, progress_from, advance_in_place, raise_reading_anew, advance_reading_anew}
use Rattle.rules.specs.HandBack.{failed, emitters_fall, in_batch, malformed, minimum, emission_rows, process_rows, commit, commit_at, hand_back}
use Rattle.rules.specs.Reads.{read, read_gvt, read_counters, read_pending, read_earliest}
use Rattle.rules.specs.Plan.{entity_before, insert_entity, sorted, same_entity, first_duplicate, entity_or_zero, plan, owner}
use Rattle.rules.specs.Calls.{rule, execute}
use Rattle.rules.specs.History.{run_calls, is_initial, is_begin, is_hand_back, horizon, emissions, refused, is_advanced, is_batch, events, R, initials, H, in_hand, handled, emitted, remote, rounds, null_message_count, worker_count_of, used, events_at, handed_to, is_committed}

unfoldable pub all_rules : Type 0
unfolding if◌then◌otherwise◌ is_some up_from up_to any any_of every member non_empty sum count rising refusal_number refusal_values reading_values event_values number values unless missing unexpected malformed_rows targets least_lookahead least_without_row destination_rows topology_rows edges_of built build before insert first_of without_first tick_or first_tick queue route lookahead_along least_into inbound_of safe below eligible any_eligible over_limit unknown_id duplicate_or_self_edges horizon_is_max is_unset wrong_record foreign add_initial previous begin least raised refresh_to gvt_of refreshed take_eligible_at take_eligible input_frontier new_bound raised_edges count_raised any_raised any_advanced complete advance step_run step_at step nth_edge set_bound raise_bound raise_bound_at raise_each raise_bounds progress_from advance_in_place raise_reading_anew advance_reading_anew failed emitters_fall in_batch malformed minimum emission_rows process_rows commit commit_at hand_back read read_gvt read_counters read_pending read_earliest entity_before insert_entity sorted same_entity first_duplicate entity_or_zero plan owner rule execute run_calls is_initial is_begin is_hand_back horizon emissions refused is_advanced is_batch events R initials H in_hand handled emitted remote rounds null_message_count worker_count_of used events_at handed_to is_committed
all_rules = ℕ
