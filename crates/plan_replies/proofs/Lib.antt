pub mod Tables
pub mod Noting
pub mod Linking
pub mod Taking
pub mod Filling
