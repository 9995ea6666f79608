-- One name that opens all definitions of this crate and the rules, for whatever computes: `unfolding all_plans`.
use Rattle.std.specs.Prelude.{ℕ}
use Rattle.rules.specs.Opened.{all_rules}
use Rattle.plan_file.specs.Examples.{by_computation}
use Rattle.plan_rules.specs.Setup.{joined, edge_rows, place, place_all, rows, setup_of, too_long}
use Rattle.plan_rules.specs.Host.{reply_of, without, spend, due, left, or_begin, opening, after, next}
use Rattle.plan_file.specs.Events.{emission_count, event_count}
use Rattle.plan_rules.specs.Run.{carried, move, run, enough, ran}
use Rattle.plan_rules.specs.Text.{digits, decimal, nibble, hexadecimal}
use Rattle.plan_rules.specs.Listing.{event_line, event_lines, handled_lines, end_line, last_number, listing, once_built, rehearsed}
use Rattle.plan_rules.specs.Export.{handed_over, exported_of, exported, shown, printed_of, printed}

unfoldable pub all_plans : Type 0
unfolding all_rules by_computation joined edge_rows place place_all rows setup_of too_long reply_of without spend due left or_begin opening after next carried move run emission_count event_count enough ran digits decimal nibble hexadecimal event_line event_lines handled_lines end_line last_number listing once_built rehearsed handed_over exported_of exported shown printed_of printed
all_plans = ℕ
