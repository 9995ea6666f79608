pub mod Looks
pub mod Lookaheads
