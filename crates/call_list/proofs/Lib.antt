pub mod Executing
pub mod Running
pub mod Rehearsing
