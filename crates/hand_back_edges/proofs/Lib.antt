pub mod Finding
pub mod PlaceRows
pub mod Lookaheads
