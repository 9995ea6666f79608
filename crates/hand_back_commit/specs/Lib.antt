pub mod HandsBack
pub mod Commits
