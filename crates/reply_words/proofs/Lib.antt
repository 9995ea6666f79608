pub mod Table
pub mod MalformedReply
pub mod Reading
pub mod Passing
pub mod Samples
pub mod Cut
