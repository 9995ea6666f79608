pub mod Table
pub mod Finds
pub mod Fills
