pub mod ScanRule
pub mod Turns
pub mod Taken
