pub mod ScanRule
pub mod Scan
