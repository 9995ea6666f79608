pub mod Stored
pub mod Compared
pub mod Placing
pub mod Moved
pub mod Passes
pub mod Gathered
pub mod Samples
