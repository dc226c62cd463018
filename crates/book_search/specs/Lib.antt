pub mod Sought
pub mod Steps
pub mod Runs
