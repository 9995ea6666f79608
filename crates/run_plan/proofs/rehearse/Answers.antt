use native.Mathlib.Omega.{arith}
use Rattle.run_plan.proofs.Printing.{prints_nothing, prints_listing}
use Rattle.run_plan.proofs.rehearse.Goals as goal

pub returns-then-dorrezubi_run_plan-gt0 : goal.returns-then-dorrezubi_run_plan-gt0
returns-then-dorrezubi_run_plan-gt0 c = record {
  listing_after = prints_nothing _ _ _ _ c.requires c.dorrezubi_run_plan.ensures c.if-dorrezubi_run_plan-gt0.true;
  upper_bound = omega arith;
}

pub returns : goal.returns
returns c = record {
  listing_after = prints_listing _ _ _ _ c.requires c.dorrezubi_run_plan.ensures c.if-dorrezubi_run_plan-gt0.false _ c.text_length.ensures;
  upper_bound = c.text_length.ensures.inside;
}
