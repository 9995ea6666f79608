use Rattle.plan_file.proofs.Record.skip_all.Goals as goal
-- `plan_file::Record::skip_all` meets its contract.
use Rattle.std.proofs.Common.{arith}
use native.Mathlib.Numerals.{unary_clauses}
use Rattle.bits.proofs.Streams.{length_stream}
use Rattle.plan_file.proofs.Steps.{walk_in, many_short, many_on, many_end}

pub loop-init : goal.loop-init
loop-init g c = record { inside = omega arith; same_end = simp unary_clauses }

pub returns-in_err-p : goal.returns-in_err-p
returns-in_err-p g c =
    let m = g.met.Self.Record in
    let l = c.loop in
    rw c.from_residual.ensures (many_short _ _ m.none_end m.more_end _ _ c.args.n l.counter l.p l.invariant.same_end (omega arith) c.skip_one.ensures c.in_err-p.was)

pub loop-preserved : goal.loop-preserved
loop-preserved g c =
    let m = g.met.Self.Record in
    let l = c.loop in
    let w = c.skip_one.ensures in
    let q = c.in_ok-p.was in
    record { inside = rw length_stream at (walk_in w _ q); same_end = many_on _ _ m.none_end m.more_end _ _ c.args.n l.counter l.p l.invariant.same_end (omega arith) w _ q }

pub returns : goal.returns
returns g c =
    let m = g.met.Self.Record in
    let l = c.loop in
    many_end _ _ m.none_end m.more_end _ _ c.args.n l.counter l.p l.invariant.same_end (omega arith) (rw length_stream l.invariant.inside)
