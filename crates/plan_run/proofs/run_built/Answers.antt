use Rattle.plan_run.proofs.run_built.Goals as goal
-- `plan_run::run_built` meets its contract.
use mathlib.Core.Path.{refl}
use Rattle.plan_run.proofs.Whole.{adding_start, came_start, runs_built}

-- src/lib.rt:174:9
pub add_initials-added-requires : goal.add_initials-added-requires
add_initials-added-requires c =
    let pre = c.requires in
    (adding_start _ _ _ _ _ _ pre.0 pre.2, pre.2.counted)

-- src/lib.rt:184:9
pub run_turns-end-requires : goal.run_turns-end-requires
run_turns-end-requires c =
    let pre = c.requires in
    came_start _ _ _ _ _ c.begin-opened.ensures _ _ _ pre.2.short pre.3 refl _ c.zero_counters.ensures

-- src/lib.rt:156:1
pub returns : goal.returns
returns c =
    runs_built _ _ _ _ _ _ _ _ _ c.run_turns-end.ensures _ c.number_of-number.ensures c.end_listing.ensures c.args.listing.now c.run_turns-end.auto.listing
