use Rattle.schedule_initial.proofs.Adding.{record_is}
use Rattle.schedule_initial.proofs.record_of.Goals as goal

pub returns : goal.returns
returns c = record_is c.args.m _ _ _ c.to_word.ensures c.to_word-2.ensures
