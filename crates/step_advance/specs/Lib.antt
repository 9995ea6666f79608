pub mod Refreshes
pub mod Advances
