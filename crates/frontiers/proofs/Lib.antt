pub mod Changing
pub mod Tables
pub mod Capped
pub mod RaisingBounds
pub mod RaisingHorizons
pub mod ReadingFrontiers
pub mod Early
pub mod Gathered
