pub mod AnswerRows
pub mod Checking
pub mod Initializing
pub mod Numbering
