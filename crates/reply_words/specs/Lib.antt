pub mod Emissions
pub mod Replies
