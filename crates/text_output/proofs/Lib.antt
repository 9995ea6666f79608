pub mod Behind
pub mod Hex
