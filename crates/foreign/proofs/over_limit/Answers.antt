use borrow.Author.Rules.{rules}
use borrow.Author.Tests.{lt-ltb, le-ltb}
use Rattle.foreign.proofs.Chain.{stops, goes_on, ends}
use Rattle.foreign.proofs.over_limit.Goals as goal

pub returns-then-head-gt-MAX_EDGES : goal.returns-then-head-gt-MAX_EDGES
returns-then-head-gt-MAX_EDGES c = search (stops, lt-ltb) depth 1

pub returns-then-head-gt-MAX_PENDING : goal.returns-then-head-gt-MAX_PENDING
returns-then-head-gt-MAX_PENDING c = search (stops, goes_on, lt-ltb, le-ltb) depth 2

pub returns : goal.returns
returns c = search (goes_on, ends, le-ltb, rules)
