pub mod Bytes
pub mod Decoded
