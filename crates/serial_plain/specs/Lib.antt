pub mod Fault
pub mod Shown
pub mod Steps
