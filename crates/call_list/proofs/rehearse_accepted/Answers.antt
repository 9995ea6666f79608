use borrow.Author.Rules.{rules}
use Rattle.call_list.proofs.Rehearsing.{laid_lent, built_rehearsed}
use Rattle.call_list.proofs.rehearse_accepted.Goals as goal

pub run_calls-ran-requires : goal.run_calls-ran-requires
run_calls-ran-requires c =
    laid_lent _ _ _ _ _ _ c.requires _ _ _ c.initialize-head.result c.initialize-head.ensures (search (c.initialize-head.auto, rules)) (search (c.initialize-head.auto, rules))

pub returns : goal.returns
returns c =
    built_rehearsed _ _ _ _ _ _ c.requires _ _ _ c.initialize-head.result c.initialize-head.ensures _ c.run_calls-ran.result _ _ _ _ c.run_calls-ran.ensures
