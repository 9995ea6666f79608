use Rattle.runtime.proofs.Making.{can_make, accepted, refused}
use Rattle.runtime.proofs.build.Goals as goal

pub returns-in-Err : goal.returns-in-Err
returns-in-Err c = refused _ _ _ _ _ _ _ c.args.counters _ c.check.ensures _ c.in-Err.is c.empty_runtime.result c.empty_runtime.ensures

pub make_runtime-requires : goal.make_runtime-requires
make_runtime-requires c = can_make _ _ _ _ _ _ _ c.args.counters _ c.check.ensures c.in_default.is

pub returns : goal.returns
returns c = accepted _ _ _ _ _ _ _ c.args.counters _ c.check.ensures c.in_default.is c.make_runtime.result c.make_runtime.ensures c.zero_counters.result c.zero_counters.ensures
