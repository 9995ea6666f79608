pub mod Beside
pub mod Sums
pub mod Decided
