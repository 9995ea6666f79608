pub mod WithoutBatch
pub mod Handing
pub mod Stepping
