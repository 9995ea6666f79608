pub mod WithoutBatch
pub mod Steps
