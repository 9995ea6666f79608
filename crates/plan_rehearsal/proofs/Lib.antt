pub mod Rehearsing
pub mod Setting
