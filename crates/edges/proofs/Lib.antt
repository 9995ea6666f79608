pub mod Bits
pub mod Tested
pub mod Marks
pub mod Pairs
