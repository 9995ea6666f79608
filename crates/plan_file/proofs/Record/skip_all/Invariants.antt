use Rattle.std.proofs.Common.{◌≡◌, ◌*◌, ◌≤◌, ◌-◌, length, drop}
use Rattle.bits.specs.Bytes.{stream}
use Rattle.plan_file.proofs.Record.skip_all.Given as goal

abbrev pub invariant-loop : goal.invariant-loop
invariant-loop g l = record {
  inside : l.p ≤ length l.s * 8;
  same_end : g.Self.Record.all_end l.n (drop l.at (stream l.s)) ≡ g.Self.Record.all_end (l.n - l.counter) (drop l.p (stream l.s));
}
