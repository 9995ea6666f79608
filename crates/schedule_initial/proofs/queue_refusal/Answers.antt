use Rattle.schedule_initial.proofs.Adding.{queue_long, queue_full, queue_late}
use Rattle.schedule_initial.proofs.queue_refusal.Goals as goal

pub returns-then-m-gt-MAX_PAYLOAD : goal.returns-then-m-gt-MAX_PAYLOAD
returns-then-m-gt-MAX_PAYLOAD c = queue_long _ _ c.if-m-gt-MAX_PAYLOAD.true

pub returns-then-is_queue_full : goal.returns-then-is_queue_full
returns-then-is_queue_full c =
    queue_full _ _ c.if-m-gt-MAX_PAYLOAD.false _ c.is_queue_full.ensures c.if-is_queue_full.true

pub returns-then-sequence_exhausted : goal.returns-then-sequence_exhausted
returns-then-sequence_exhausted c =
    queue_late _ _ c.if-m-gt-MAX_PAYLOAD.false _ c.is_queue_full.ensures c.if-is_queue_full.false _ c.sequence_exhausted.ensures c.if-sequence_exhausted.true
