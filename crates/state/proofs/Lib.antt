pub mod Facts
pub mod Moves
pub mod Queueing
pub mod Numbering
pub mod LeftLent
