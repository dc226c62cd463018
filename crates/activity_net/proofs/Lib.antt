pub mod NameLaws
pub mod CountLaws
pub mod TableLaws
pub mod PredecessorLaws
pub mod CycleLaws
pub mod RemovalLaws
pub mod StuckLaws
pub mod RingLaws
pub mod NetLaws
pub mod ListFaultLaws
pub mod BitLaws
pub mod FollowLaws
pub mod ReachLaws
pub mod EligibleLaws
pub mod SwapLaws
mod Rows
