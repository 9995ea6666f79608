use mathlib.Core.Path.{sym}
use Rattle.build_ids.proofs.RisingLists.{bit_is, mask_fits, met_none, met_on, met_off, met_all}
use Rattle.build_ids.proofs.check_ids.Goals as goal
use Rattle.build_ids.proofs.check_ids.Goals.{then-is_at, else-is_at}

pub loop-id-init : goal.loop-id-init
loop-id-init c = search met_none depth 1

pub overflow_add-missing : goal.overflow_add-missing
overflow_add-missing c = record { fits = mask_fits c.args.n c.loop-id.id c.requires.few c.loop-id-test.true c.loop-id.missing c.loop-id.invariant.small }

pub loop-id-preserved : goal.loop-id-preserved
loop-id-preserved c =
    let a = c.args in
    let l = c.loop-id-test.true in
    elim c.if-is_at.branch [ then-is_at w ↦ rw (w.missing-is, w.at-is) (met_on a.n a.ids.now c.loop-id.missing c.loop-id.at c.loop-id.id l (sym w.if-is_at.ensures) c.loop-id.invariant) | else-is_at w ↦ rw (w.missing-is, w.at-is, bit_is a.n c.loop-id.id c.requires.few l) (met_off a.n a.ids.now c.loop-id.missing c.loop-id.at c.loop-id.id l (sym w.if-is_at.ensures) c.loop-id.invariant) ]

pub returns : goal.returns
returns c = search met_all depth 1
