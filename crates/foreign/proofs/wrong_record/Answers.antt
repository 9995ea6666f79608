use Rattle.records.proofs.Passes.{seeking_start, answer_passed}
use Rattle.foreign.proofs.Compared.{tick_wrong, ticks_right}
use Rattle.foreign.proofs.wrong_record.Goals as goal

pub returns-then-wrong_tick : goal.returns-then-wrong_tick
returns-then-wrong_tick c = search tick_wrong depth 1

pub loop-p-preserved : goal.loop-p-preserved
loop-p-preserved c = search answer_passed depth 1

pub returns : goal.returns
returns c = search ticks_right depth 1

pub loop-p-init : goal.loop-p-init
loop-p-init c = search seeking_start depth 1
