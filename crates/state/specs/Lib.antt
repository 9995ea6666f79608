pub mod View
pub mod Numbers
pub mod Headers
pub mod ValidArrays
pub mod AsGiven
pub mod RefusalOr
