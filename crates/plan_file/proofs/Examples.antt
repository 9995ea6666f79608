-- The examples, by computation.
use mathlib.Core.Path.{refl}
use Rattle.plan_file.specs.Examples.{by_computation, c1, events, Examples}

pub examples : Examples
unfolding by_computation c1 events
examples = record {
  c1_read = refl;
  c1_written = refl;
  events_read = refl;
  set_padding = refl;
  «too_short» = refl;
  «left_over» = refl;
  empty = refl;
  «too_long» = refl;
}
