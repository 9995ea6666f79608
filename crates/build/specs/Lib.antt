pub mod Checks
pub mod Initialized
pub mod Numbers
