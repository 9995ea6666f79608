pub mod Tables
pub mod Rises
pub mod InputFrontiers
