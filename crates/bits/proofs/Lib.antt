pub mod Fields
pub mod Streams
pub mod Room
pub mod Words
