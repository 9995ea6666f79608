pub mod Reached
pub mod Turns
