-- Numbers and bytes as bits, most significant first.
pub mod Bits
pub mod Bytes
