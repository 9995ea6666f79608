pub mod Spread
pub mod Filling
pub mod Tables
pub mod Edges
pub mod Stored
pub mod Made
