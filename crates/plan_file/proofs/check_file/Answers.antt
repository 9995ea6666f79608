use Rattle.plan_file.proofs.check_file.Goals as goal
-- `plan_file::check_file` meets its contract.
use native.Mathlib.Omega.{arith}
use Rattle.bits.specs.Bytes.{stream}
use Rattle.bits.proofs.Streams.{length_stream}
use Rattle.plan_file.proofs.Placing.{whole_of, ends_of}
use Rattle.plan_file.proofs.Numbers.{too_long, too_short, left_over, set_padding, passes}

pub returns-then-s-gt16384 : goal.returns-then-s-gt16384
returns-then-s-gt16384 c = too_long _ c.if-s-gt16384.true

pub returns-in_default : goal.returns-in_default
returns-in_default c =
    let s = c.args.s.now in
    too_short s (omega arith) (ends_of (stream s) _ c.find_lists.ensures c.in_default.is)

pub overflow_sub-left : goal.overflow_sub-left
overflow_sub-left c =
    let s = c.args.s.now in
    rw length_stream at (whole_of (stream s) _ c.find_lists.ensures _ c.in-Some.is).inside

pub returns-then-left-ge8 : goal.returns-then-left-ge8
returns-then-left-ge8 c =
    let s = c.args.s.now in
    left_over s (omega arith) (whole_of (stream s) _ c.find_lists.ensures _ c.in-Some.is) c.if-left-ge8.true

pub read-requires : goal.read-requires
read-requires c =
    let s = c.args.s.now in
    let h = rw length_stream at (whole_of (stream s) _ c.find_lists.ensures _ c.in-Some.is).inside in
    omega arith

pub returns-then-read-ne0 : goal.returns-then-read-ne0
returns-then-read-ne0 c =
    let s = c.args.s.now in
    set_padding s (omega arith) (whole_of (stream s) _ c.find_lists.ensures _ c.in-Some.is) (omega arith) _ c.read.ensures c.if-read-ne0.true

pub returns : goal.returns
returns c =
    let s = c.args.s.now in
    passes s (omega arith) (whole_of (stream s) _ c.find_lists.ensures _ c.in-Some.is) (omega arith) _ c.read.ensures c.if-read-ne0.false
