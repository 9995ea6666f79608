-- Each holds by computation.
use mathlib.Core.Path.{refl}
use Rattle.rules.specs.Opened.{all_rules}
use Rattle.rules.specs.Rehearsals.{pair}
use Rattle.rules.specs.Counting.{Counts, entries_of, numbers}

pub counted : Counts
unfolding all_rules pair entries_of numbers
counted = record {
  c1 = refl;
  c3 = refl;
  c7 = refl;
  c7_lost = refl;
  c10 = refl;
  c10_handed = refl;
  second_run = refl;
  kept = refl;
  lost = refl;
  lost_handed = refl;
}
