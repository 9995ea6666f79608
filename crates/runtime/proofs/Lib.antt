pub mod Making
pub mod Empty
pub mod Executing
