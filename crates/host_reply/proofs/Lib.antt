pub mod Turns
pub mod Checking
pub mod Enqueueing
