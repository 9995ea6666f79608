pub mod Dividing
pub mod Leasts
