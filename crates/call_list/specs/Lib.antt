pub mod Executes
pub mod Runs
pub mod Rehearses
