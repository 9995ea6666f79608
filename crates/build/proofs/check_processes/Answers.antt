use Rattle.build.proofs.Checking.{wrong_count, no_lookahead, unordered, orderly, exactly, no_match}
use Rattle.build.proofs.check_processes.Goals as goal

pub returns-then-invalid_process_count : goal.returns-then-invalid_process_count
returns-then-invalid_process_count c = search wrong_count depth 1

pub returns-then-is_zero : goal.returns-then-is_zero
returns-then-is_zero c = search no_lookahead depth 1

pub returns-then-not-rising : goal.returns-then-not-rising
returns-then-not-rising c = search unordered depth 1

pub check_ids-found-requires : goal.check_ids-found-requires
check_ids-found-requires c = search orderly depth 1

pub returns-then-found-eq0-2 : goal.returns-then-found-eq0-2
returns-then-found-eq0-2 c = search exactly depth 1

pub returns : goal.returns
returns c = search no_match depth 1
