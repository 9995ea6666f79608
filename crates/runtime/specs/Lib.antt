pub mod Builds
pub mod Executes
