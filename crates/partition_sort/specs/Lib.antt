pub mod Entities
pub mod Duplicates
