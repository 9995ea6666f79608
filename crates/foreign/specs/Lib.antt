pub mod Tests
pub mod Checks
