pub mod Demanded
pub mod Theorem
