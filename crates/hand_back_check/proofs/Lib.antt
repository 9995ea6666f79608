pub mod Turns
pub mod InOrder
pub mod Snoc
pub mod Next
pub mod Checking
pub mod Failing
