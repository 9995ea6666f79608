pub mod OwnerNumbers
pub mod PlanNumbers
pub mod Planned
