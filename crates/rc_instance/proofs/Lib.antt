pub mod ListLaws
pub mod SetLaws
pub mod SortedLists
pub mod LimitLaws
pub mod BuildLaws
pub mod MisfitLaws
pub mod CapacityLaws
pub mod UsageLaws
pub mod StartLaws
pub mod SerialLaws
pub mod OrderLaws
pub mod ScheduleLaws
pub mod FeasibleLaws
mod Rows
