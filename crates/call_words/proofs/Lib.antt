pub mod Decoding
pub mod Cutting
