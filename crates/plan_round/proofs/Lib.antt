pub mod Follows
pub mod Onward
pub mod Stepped
pub mod Replied
pub mod Turned
pub mod Answered
