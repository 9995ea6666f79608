use Rattle.records.specs.Records.{events_of}
use Rattle.plan_rules.specs.Listing.{event_lines}
use Rattle.plan_text.specs.Appends.{Appends}
use Rattle.plan_text.proofs.put_batch.Given as goal

abbrev pub invariant-loop-i : goal.invariant-loop-i
invariant-loop-i l = Appends l.initial.out l.at (event_lines (events_of l.i l.batch)) l.out l.end
