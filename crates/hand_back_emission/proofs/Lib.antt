pub mod Checks
pub mod Rows
pub mod InHand
pub mod KnownEdges
