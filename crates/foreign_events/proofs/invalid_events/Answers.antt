use borrow.Author.Rules.{rules}
use mathlib.Core.Path.{◌∙◌}
use Rattle.records.specs.Records.{events_of}
use Rattle.rules.specs.Foreign.{unknown_id_event, long_payload}
use Rattle.foreign_events.specs.Clauses.{invalid_event}
use Rattle.foreign_events.proofs.Clauses.{any_or}
use Rattle.foreign_events.proofs.invalid_events.Goals as goal

pub returns : goal.returns
returns c =
    c.any_event.ensures (invalid_event c.args.n) (λ r b e. search rules)
    ∙ any_or (unknown_id_event c.args.n) long_payload (events_of c.args.count c.args.w.now)
