-- Request A.1 above the rules, over ℕ and lists. To believe, in this order: what build is given of a plan, its host, the run, the listing, what is exported.
pub mod Setup
pub mod Host
pub mod Run
pub mod Text
pub mod Listing
pub mod Export
pub mod Opened
-- What is proved of them.
pub mod Characters
pub mod Examples
pub mod Ends
pub mod Laws
pub mod Size
pub mod Numbers
pub mod Proved
