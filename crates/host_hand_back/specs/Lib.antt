pub mod Passes
pub mod Parts
