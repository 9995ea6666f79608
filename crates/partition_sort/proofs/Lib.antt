pub mod Pairs
pub mod Order
pub mod Sorting
pub mod Duplicates
