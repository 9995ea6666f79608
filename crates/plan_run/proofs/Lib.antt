pub mod Opening
pub mod Running
pub mod Whole
