use Rattle.foreign.proofs.Headers.{count_wrong, count_right}
use Rattle.foreign.proofs.invalid_size.Goals as goal

pub returns-then-invalid_process_count : goal.returns-then-invalid_process_count
returns-then-invalid_process_count c = search count_wrong depth 1

pub returns : goal.returns
returns c = search count_right depth 1
