pub mod Lookaheads
pub mod Checks
