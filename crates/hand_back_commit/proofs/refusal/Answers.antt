use Rattle.hand_back_commit.proofs.Ending.{refusal_27, refusal_19, refusal_18, refusal_none}
use Rattle.hand_back_commit.proofs.refusal.Goals as goal

pub returns-in-Some : goal.returns-in-Some
returns-in-Some c = refusal_27 c.args.failed _ _ _ c.in-Some.p c.in-Some.is

pub returns-then-sequence_exhausted : goal.returns-then-sequence_exhausted
returns-then-sequence_exhausted c = search refusal_19 depth 1

pub returns-then-is_queue_full : goal.returns-then-is_queue_full
returns-then-is_queue_full c = search refusal_18 depth 1

pub returns : goal.returns
returns c = search refusal_none depth 1
