pub mod Appends
pub mod Prepends
