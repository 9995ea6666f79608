-- What was read of a plan file, and what was written of it.
pub mod Read
pub mod Written
