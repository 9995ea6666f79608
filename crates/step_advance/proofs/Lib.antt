pub mod Refreshing
pub mod Advancing
