pub mod Filling
pub mod Opening
pub mod Passing
pub mod Closing
