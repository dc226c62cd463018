pub mod FindLaws
pub mod StartLaws
pub mod ReachLaws
pub mod NonDelayLaws
pub mod ToldLaws
pub mod PassLaws
mod Rows
