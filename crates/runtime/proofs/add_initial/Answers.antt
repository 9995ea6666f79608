use borrow.Author.Rules.{rules}
use Rattle.runtime.proofs.Executing.{can_look, can_queue, carries_initial}
use Rattle.runtime.proofs.add_initial.Goals as goal

pub add_initial-added-requires : goal.add_initial-added-requires
add_initial-added-requires c = (can_look c.args.state c.in_default.ensures (search rules), can_queue c.args.state c.in_default.ensures (search rules))

pub returns : goal.returns
returns c = carries_initial _ c.in_default.ensures _ _ _ _ c.add_initial-added.ensures
