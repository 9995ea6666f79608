use Rattle.plan_rehearsal.proofs.rehearse.Goals as goal
-- `plan_rehearsal::rehearse` meets its contract.
use borrow.Author.Rules.{rules}
use mathlib.Core.Path.{sym, ap}
use mathlib.Core.Bool.{not}
use native.Mathlib.Omega.{arith}
use lib.Seq.{length-take-le}
use Rattle.plan_reader.proofs.Headers.{header_room}
use Rattle.plan_rehearsal.proofs.Rehearsing.{fallen_refused, by_rehearsal, falls, stands}
use Rattle.plan_rehearsal.proofs.Setting.{short_file, listed_early, passed, stands_is, can_make_rows}

pub header-header-requires : goal.header-header-requires
header-header-requires c = let pre = c.requires in (short_file _ _ pre, header_room _ _ pre.read)

pub returns-in-Err : goal.returns-in-Err
returns-in-Err c =
    by_rehearsal _ _ _ _ _ (listed_early _ _ _ c.requires c.header-header.ensures _ c.early_refusal.ensures _ c.in-Err.is) c.refuse.ensures

pub read_edges-requires : goal.read_edges-requires
read_edges-requires c =
    let k = passed _ _ _ c.requires c.header-header.ensures _ c.early_refusal.ensures _ c.in_default.is in
    record { count_in_bounds = (k.room, omega (arith, k.room, k.short)); count_in_bounds_2 = (search (k.few, rules), search (k.few, rules)) }

pub slice_bounds-from-end : goal.slice_bounds-from-end
slice_bounds-from-end c =
    let k = passed _ _ _ c.requires c.header-header.ensures _ c.early_refusal.ensures _ c.in_default.is in
    search (k.few, rules)

pub slice_bounds-never_fall-end : goal.slice_bounds-never_fall-end
slice_bounds-never_fall-end c =
    let k = passed _ _ _ c.requires c.header-header.ensures _ c.early_refusal.ensures _ c.in_default.is in
    sym (length-take-le _ _ (search (k.few, rules)))

pub returns-then-not-never_fall : goal.returns-then-not-never_fall
returns-then-not-never_fall c =
    let k = passed _ _ _ c.requires c.header-header.ensures _ c.early_refusal.ensures _ c.in_default.is in
    by_rehearsal _ _ _ _ _ (fallen_refused _ k.early (falls _ _ (stands_is _ _ _ k.known _ _ c.read_edges.ensures _ c.never_fall.ensures) (ap not c.if-not-never_fall.true))) c.refuse-then-not-never_fall.ensures

pub read_lookaheads-requires : goal.read_lookaheads-requires
read_lookaheads-requires c =
    let k = passed _ _ _ c.requires c.header-header.ensures _ c.early_refusal.ensures _ c.in_default.is in
    record { count_in_bounds = (k.room, k.short); count_in_bounds_2 = search (k.few, rules) }

pub overflow_mul-words : goal.overflow_mul-words
overflow_mul-words c =
    let k = passed _ _ _ c.requires c.header-header.ensures _ c.early_refusal.ensures _ c.in_default.is in
    search (k.few, rules)

pub slice_bounds-from-end-2 : goal.slice_bounds-from-end-2
slice_bounds-from-end-2 c =
    let k = passed _ _ _ c.requires c.header-header.ensures _ c.early_refusal.ensures _ c.in_default.is in
    search (k.few, c.read_edges.auto, rules)

pub slice_bounds-rehearse_rows-end : goal.slice_bounds-rehearse_rows-end
slice_bounds-rehearse_rows-end c =
    let k = passed _ _ _ c.requires c.header-header.ensures _ c.early_refusal.ensures _ c.in_default.is in
    sym (length-take-le _ _ (search (k.few, c.read_edges.auto, rules)))

pub slice_bounds-destinations-end : goal.slice_bounds-destinations-end
slice_bounds-destinations-end c =
    let k = passed _ _ _ c.requires c.header-header.ensures _ c.early_refusal.ensures _ c.in_default.is in
    search (k.few, c.read_edges.auto, rules)

pub slice_bounds-rehearse_rows-end-2 : goal.slice_bounds-rehearse_rows-end-2
slice_bounds-rehearse_rows-end-2 c =
    let k = passed _ _ _ c.requires c.header-header.ensures _ c.early_refusal.ensures _ c.in_default.is in
    sym (length-take-le _ _ (search (k.few, c.read_edges.auto, rules)))

pub slice_bounds-lookaheads-end : goal.slice_bounds-lookaheads-end
slice_bounds-lookaheads-end c =
    let k = passed _ _ _ c.requires c.header-header.ensures _ c.early_refusal.ensures _ c.in_default.is in
    search (k.few, rules)

pub slice_bounds-rehearse_rows-end-3 : goal.slice_bounds-rehearse_rows-end-3
slice_bounds-rehearse_rows-end-3 c =
    let k = passed _ _ _ c.requires c.header-header.ensures _ c.early_refusal.ensures _ c.in_default.is in
    sym (length-take-le _ _ (search (k.few, c.read_lookaheads.auto, rules)))

pub rehearse_rows-requires : goal.rehearse_rows-requires
rehearse_rows-requires c =
    let k = passed _ _ _ c.requires c.header-header.ensures _ c.early_refusal.ensures _ c.in_default.is in
    can_make_rows _ _ _ k.known _ _ c.read_edges.ensures k.early.few (stands _ _ (stands_is _ _ _ k.known _ _ c.read_edges.ensures _ c.never_fall.ensures) (ap not c.if-not-never_fall.false)) (search (k.few, c.read_edges.auto, rules)) _ (search (k.few, c.read_lookaheads.auto, rules)) c.read_lookaheads.ensures
