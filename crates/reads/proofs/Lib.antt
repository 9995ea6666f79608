pub mod Numbering
pub mod Answering
