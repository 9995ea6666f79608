use Rattle.plan_reader.proofs.put_emission.Goals as goal
-- `plan_reader::put_emission` meets its contract.
use native.Mathlib.Omega.{arith}
use lib.ListN.{length-set}
use Rattle.plan_reader.proofs.Emissions.{ids_fit, eight_puts}

pub bounds-w-at-2 : goal.bounds-w-at-2
bounds-w-at-2 c = simp length-set (omega arith)

pub bounds-w-at-3 : goal.bounds-w-at-3
bounds-w-at-3 c = simp length-set (omega arith)

pub bounds-w-at-4 : goal.bounds-w-at-4
bounds-w-at-4 c = simp length-set (omega arith)

pub bounds-w-at-5 : goal.bounds-w-at-5
bounds-w-at-5 c = simp length-set (omega arith)

pub bounds-w-at-6 : goal.bounds-w-at-6
bounds-w-at-6 c = simp length-set (omega arith)

pub bounds-w-at-7 : goal.bounds-w-at-7
bounds-w-at-7 c = simp length-set (omega arith)

pub bounds-w-at-8 : goal.bounds-w-at-8
bounds-w-at-8 c = simp length-set (omega arith)

pub returns : goal.returns
returns c =
    eight_puts _ _ c.args.e (ids_fit c.args.e _ c.well_formed.1.1.0) c.requires _ _ _ c.to_word.ensures c.to_word-2.ensures c.to_word-3.ensures
