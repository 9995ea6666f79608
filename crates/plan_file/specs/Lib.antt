-- The plan file: what it says, its grammar, 37 and 38. Read in this order.
pub mod Plan
pub mod Format
pub mod Grammar
pub mod File
-- What is proved of it.
pub mod Widths
pub mod Events
pub mod Examples
pub mod Theorem
-- What stands where in a file, and what its check answers.
pub mod Standing
pub mod Checks
-- Messages that the runtime cannot tell apart.
pub mod Like
-- What the functions below the check say to each other.
pub mod Walked
pub mod Onward
