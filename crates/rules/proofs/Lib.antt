-- Computed cases: document 01's rehearsals, what else notices its slips, and demand 3's numbers.
pub mod Rehearsals
pub mod Slips
pub mod Lookaheads
pub mod Counting
-- Tools: tests, lists, tables of refusals, and what each call can do.
pub mod Tests
pub mod Lists
pub mod Table
pub mod Cases
-- What every call keeps, each file on those before it: the counts and the sum, ..
pub mod Shape
pub mod Recorded
pub mod Counts
pub mod Tally
pub mod TallyCalls
-- .. rounds and null messages, and that no step comes to the last branch, ..
pub mod Fronts
pub mod LastBranch
pub mod Pace
pub mod PaceMoves
pub mod PaceCalls
-- .. states that 11 lets pass, ..
pub mod Order
pub mod Take
pub mod Checks
pub mod ShapeCalls
-- .. and the order in which events are handed out.
pub mod Fair
pub mod Emit
pub mod Handed
pub mod FairMoves
pub mod FairCalls
pub mod Numbers
-- Demand 3.
pub mod Built
pub mod Sequence
pub mod Demand
pub mod Carried
-- Laws for the code.
pub mod Again
pub mod InPlace
pub mod Outcomes
pub mod ProcessCount
