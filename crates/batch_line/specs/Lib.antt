pub mod Batch
pub mod Runs
pub mod Ending
pub mod Run
pub mod Program
