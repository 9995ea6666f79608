-- By computation.
pub mod Examples
-- The run ends.
pub mod Replies
pub mod Fit
pub mod Moves
pub mod Ends
-- Laws.
pub mod Setups
pub mod Builds
pub mod Limits
pub mod Kth
pub mod Ready
pub mod Runs
pub mod Loop
pub mod Payloads
pub mod Texts
pub mod RefusalNumbers
pub mod Size
pub mod Exports
pub mod Program
pub mod Numbers
pub mod Proved
