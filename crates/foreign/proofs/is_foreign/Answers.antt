use borrow.Author.Rules.{rules}
use Rattle.foreign.proofs.Chain.{stops, goes_on, ends, answered}
use Rattle.foreign.proofs.Headers.{few_processes, edges_there, pending_there, batch_there}
use Rattle.foreign.proofs.Grouped.{ruled}
use Rattle.foreign.proofs.is_foreign.Goals as goal

pub returns-then-invalid_header : goal.returns-then-invalid_header
returns-then-invalid_header c = search (ruled, stops, answered, rules)

pub invalid_edges-requires : goal.invalid_edges-requires
invalid_edges-requires c = search (edges_there, few_processes) depth 1

pub returns-then-invalid_edges : goal.returns-then-invalid_edges
returns-then-invalid_edges c = search (ruled, stops, goes_on, answered, rules)

pub invalid_pending-requires : goal.invalid_pending-requires
invalid_pending-requires c = search pending_there depth 1

pub returns-then-invalid_pending : goal.returns-then-invalid_pending
returns-then-invalid_pending c = search (ruled, stops, goes_on, answered, rules)

pub invalid_batch-requires : goal.invalid_batch-requires
invalid_batch-requires c = search batch_there depth 1

pub returns : goal.returns
returns c = search (ruled, goes_on, ends, answered, rules)
