pub mod Digits
pub mod Fronts
pub mod Appending
pub mod Lines
pub mod Finished
