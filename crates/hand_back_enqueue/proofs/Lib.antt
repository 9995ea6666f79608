pub mod Enqueueing
pub mod Merged
