pub mod Rehearses
pub mod Setups
