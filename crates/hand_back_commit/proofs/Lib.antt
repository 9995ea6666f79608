pub mod QueueRows
pub mod Back
pub mod Ending
