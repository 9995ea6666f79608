use Rattle.types.proofs.ProcessCount.{no_process, processes}
use Rattle.types.proofs.invalid_process_count.Goals as goal

pub returns-then-n-eq0 : goal.returns-then-n-eq0
returns-then-n-eq0 c = search no_process depth 1

pub returns : goal.returns
returns c = search processes depth 1
