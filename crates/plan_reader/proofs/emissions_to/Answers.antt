use Rattle.plan_reader.proofs.emissions_to.Goals as goal
-- `plan_reader::emissions_to` meets its contract.
use native.Mathlib.Omega.{arith}
use Rattle.bits.specs.Bytes.{stream}
use Rattle.plan_reader.proofs.Replies.{progress_start, progress_more, progress_end, can_read, can_hold, can_go_on}

pub read-n-requires : goal.read-n-requires
read-n-requires c =
    let h = can_read c.args.s.now c.args.at c.args.from _ c.requires.1 in
    omega arith

pub overflow_add-end : goal.overflow_add-end
overflow_add-end c =
    let h = can_hold c.args.s.now c.args.at c.args.from _ c.requires.1 c.read-n.result c.read-n.ensures in
    omega arith

pub overflow_add-p : goal.overflow_add-p
overflow_add-p c =
    let h = can_read c.args.s.now c.args.at c.args.from _ c.requires.1 in
    omega arith

pub loop-i-init : goal.loop-i-init
loop-i-init c = progress_start _ _ _ _ _

pub emission_to-p-requires : goal.emission_to-p-requires
emission_to-p-requires c =
    let h = can_hold c.args.s.now c.args.at c.args.from _ c.requires.1 c.read-n.result c.read-n.ensures in
    (omega arith, can_go_on c.args.s.now c.args.at c.args.from _ c.requires.1 c.read-n.result c.read-n.ensures c.loop-i.invariant c.loop-i-test.true, omega (arith, c.loop-i.invariant.size))

pub loop-i-preserved : goal.loop-i-preserved
loop-i-preserved c =
    progress_more (stream c.args.s.now) c.args.at c.args.emitter _ c.args.from c.loop-i.invariant c.read-n.result c.read-n.ensures c.loop-i-test.true c.emission_to-p.ensures

pub shape_of-out : goal.shape_of-out
shape_of-out c = c.loop-i.invariant.size

pub returns : goal.returns
returns c =
    progress_end (stream c.args.s.now) c.args.at c.args.emitter _ c.args.from c.loop-i.invariant c.read-n.result c.read-n.ensures (omega arith)
