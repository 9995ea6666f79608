use Rattle.bits.proofs.read_bytes.Goals as goal
-- `bits::read_bytes` meets its contract.
use Prim.Native.Nat.{ℕ, ◌+◌, ◌-◌, ◌/◌, ◌%◌, ◌≤◌}
use mathlib.Core.Path.{◌≡◌, sym, ap, ◌∙◌}
use native.Mathlib.Nat.{sub_self}
use native.Mathlib.Omega.{arith}
use mathlib.Core.Bool.{Bool}
use mathlib.Core.List.{List}
use lib.ListN.{length, take, drop, length-take}
use Rattle.bits.specs.Bits.{value_of}
use Rattle.bits.specs.Bytes.{stream}
use Rattle.bits.proofs.Streams.{value_more}
use Rattle.bits.proofs.Room.{room}

pub loop-p-init : goal.loop-p-init
unfolding value_of
loop-p-init c = (omega arith, omega arith, rw sub_self)

pub append_bits-acc-requires : goal.append_bits-acc-requires
append_bits-acc-requires c =
    let a = c.args in
    let v = c.loop-p in
    let n : ℕ = v.p - a.at in
    let l : List Bool = take n (drop a.at (stream a.s.now)) in
    let h : length l ≤ n = rw length-take (omega arith) in
    (omega arith, omega arith, omega arith, room l c.min-t.result v.acc v.invariant.2 (omega arith))

pub loop-p-preserved : goal.loop-p-preserved
loop-p-preserved c =
    let a = c.args in
    let v = c.loop-p in
    let t : ℕ = c.min-t.result in
    let r : ℕ = 8 - v.p % 8 - t in
    let e : (v.p - a.at) + t ≡ v.p + t - a.at = omega arith in
    let m = value_more a.s.now (v.p / 8) (v.p % 8) t r (omega arith) (omega arith) a.at (v.p - a.at) (omega arith) in
    (omega arith, omega arith, c.append_bits-acc.ensures ∙ rw (v.invariant.2, c.from.ensures) (sym m ∙ ap (λ (k : ℕ). value_of (take k (drop a.at (stream a.s.now)))) e))

pub returns : goal.returns
returns c =
    let a = c.args in
    let e : c.loop-p.p - a.at ≡ a.w = omega arith in
    rw e at c.loop-p.invariant.2
