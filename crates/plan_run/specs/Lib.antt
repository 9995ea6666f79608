pub mod Opens
pub mod Ends
pub mod RunsBuilt
