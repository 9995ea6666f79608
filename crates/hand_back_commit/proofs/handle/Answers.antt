use mathlib.Core.Path.{ap}
use Rattle.state.specs.Headers.{committed_header}
use Rattle.hand_back_commit.proofs.handle.Goals as goal

pub returns : goal.returns
returns c = ap (committed_header c.args.head _) c.saturating_add.ensures
