pub mod Routes
pub mod Invalid
