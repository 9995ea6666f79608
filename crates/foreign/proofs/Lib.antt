pub mod Chain
pub mod Headers
pub mod Compared
pub mod Grouped
