pub mod Inserting
pub mod Merging
