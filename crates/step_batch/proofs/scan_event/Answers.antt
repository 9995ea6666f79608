use native.Mathlib.Omega.{arith}
use Rattle.step_batch.proofs.Turns.{owner, place, scanned_seen, scanned_kept, scanned_taken}
use Rattle.step_batch.proofs.scan_event.Goals as goal

pub returns-then-to-s : goal.returns-then-to-s
returns-then-to-s c =
    scanned_seen _ _ _ _ c.args.s c.requires _ _ c.if-to-s.true c.keep_pending.ensures

pub is_taken-requires : goal.is_taken-requires
is_taken-requires c =
    (owner _ _ _ _ c.args.s c.requires, c.requires.table)

pub overflow_mul-s : goal.overflow_mul-s
overflow_mul-s c =
    let p = place _ _ _ _ c.args.s c.requires _ _ _ c.if-to-s.false c.tick_in-t.ensures c.is_taken.ensures c.if-is_taken.true in
    omega (arith, p.0)

pub put_record-requires : goal.put_record-requires
put_record-requires c =
    let p = place _ _ _ _ c.args.s c.requires _ _ _ c.if-to-s.false c.tick_in-t.ensures c.is_taken.ensures c.if-is_taken.true in
    omega (arith, p.0, c.requires.places)

pub overflow_add-result-then-is_taken : goal.overflow_add-result-then-is_taken
overflow_add-result-then-is_taken c =
    let p = place _ _ _ _ c.args.s c.requires _ _ _ c.if-to-s.false c.tick_in-t.ensures c.is_taken.ensures c.if-is_taken.true in
    omega (arith, p.0)

pub overflow_sub-result : goal.overflow_sub-result
overflow_sub-result c =
    let p = place _ _ _ _ c.args.s c.requires _ _ _ c.if-to-s.false c.tick_in-t.ensures c.is_taken.ensures c.if-is_taken.true in
    omega (arith, p.1)

pub overflow_add-result-then-is_taken-2 : goal.overflow_add-result-then-is_taken-2
overflow_add-result-then-is_taken-2 c =
    let p = place _ _ _ _ c.args.s c.requires _ _ _ c.if-to-s.false c.tick_in-t.ensures c.is_taken.ensures c.if-is_taken.true in
    omega (arith, owner _ _ _ _ c.args.s c.requires)

pub returns-then-is_taken : goal.returns-then-is_taken
returns-then-is_taken c =
    scanned_taken _ _ _ _ c.args.s c.requires _ _ _ c.if-to-s.false c.tick_in-t.ensures c.is_taken.ensures c.if-is_taken.true _ _ c.record_in-e.ensures c.put_record.ensures

pub overflow_add-result-3 : goal.overflow_add-result-3
overflow_add-result-3 c =
    omega (arith, owner _ _ _ _ c.args.s c.requires)

pub returns : goal.returns
returns c =
    scanned_kept _ _ _ _ c.args.s c.requires _ _ _ c.if-to-s.false c.tick_in-t.ensures c.is_taken.ensures _ c.if-is_taken.false c.keep_pending-2.ensures
