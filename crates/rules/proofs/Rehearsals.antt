-- Each rehearsal holds by computation.
use mathlib.Core.Path.{refl}
use Rattle.rules.specs.Opened.{all_rules}
use Rattle.rules.specs.Rehearsals.{Rehearsed, pair, one_way, carry_on, outs, answers, numbers, returned, rounds_counted, null_messages_counted, gvts}

pub rehearsed : Rehearsed
unfolding all_rules pair one_way carry_on outs answers numbers returned rounds_counted null_messages_counted gvts
rehearsed = record {
  c1 = refl;
  c1_rounds = refl;
  c1_null_messages = refl;
  c1_gvt = refl;
  c2 = refl;
  c3 = refl;
  c4 = refl;
  c4_number = refl;
  c4_rounds = refl;
  c4_null_messages = refl;
  c4_gvt = refl;
  c5 = refl;
  c5_number = refl;
  c5_rounds = refl;
  c5_null_messages = refl;
  c5_gvt = refl;
  c6_committed = refl;
  c6_refused = refl;
  c6_number = refl;
  c6_values = refl;
  c7_committed = refl;
  c7_refused = refl;
  c7_number = refl;
  c7_values = refl;
  c8 = refl;
  c8_number = refl;
  c8_values = refl;
  c9 = refl;
  c9_number = refl;
  c9_values = refl;
  c10 = refl;
}
