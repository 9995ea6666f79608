-- Document 01, section by section, with the record of A.2, a lookahead for each edge (A.4) and, in InPlace, the advance of A.3 (document 02). Read in this order.
pub mod Base
pub mod State
pub mod Answers
pub mod Rows
pub mod Build
pub mod Pending
pub mod Frontiers
pub mod Foreign
pub mod Initial
pub mod Begin
pub mod Refresh
pub mod Step
pub mod InPlace
pub mod HandBack
pub mod Reads
pub mod Plan
-- Lists of calls, and demand 3 of them.
pub mod Calls
pub mod History
pub mod Demand
pub mod Opened
-- Computed cases: document 01's rehearsals, what else notices its slips, demand 3's numbers, and edges of different lookaheads (A.4).
pub mod Rehearsals
pub mod Slips
pub mod Counting
pub mod Lookaheads
