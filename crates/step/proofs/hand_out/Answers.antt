use borrow.Author.Rules.{rules}
use Rattle.step_batch.proofs.Taken.{owners}
use Rattle.step.proofs.Handing.{hands_out}
use Rattle.step.proofs.hand_out.Goals as goal

pub take_batch-scan-requires : goal.take_batch-scan-requires
take_batch-scan-requires c =
    let m = c.requires in
    (m.few_pending, m.pending_words, m.process_words, m.batch_words, owners _ _ _ m.few_processes m.known)

pub returns : goal.returns
returns c =
    hands_out c.args.head _ _ _ _ _ _ _ _ c.take_batch-scan.result c.requires c.saturating_sub-room.ensures c.exclusive_horizon-top.ensures c.take_batch-scan.ensures (search rules) c.clear.ensures
