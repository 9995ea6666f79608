pub mod EmissionRows
pub mod Checks
