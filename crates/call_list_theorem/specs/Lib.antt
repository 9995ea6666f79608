pub mod Links
pub mod Demand3
pub mod Asking
pub mod Host
pub mod Theorem
