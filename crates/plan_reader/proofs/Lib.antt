pub mod Values
pub mod Messages
pub mod Emissions
pub mod Replies
pub mod Headers
