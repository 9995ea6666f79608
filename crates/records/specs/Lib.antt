pub mod Records
pub mod Queue
pub mod Tests
